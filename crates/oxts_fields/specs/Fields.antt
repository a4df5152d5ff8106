-- How a field is read from the eight bytes of its channel, and when it is valid.
use Rattle.std.specs.Prelude.{ℕ, ◌-◌, ◌*◌, ◌/◌, ◌%◌, Bool, true, cond, not, List, ℤ, pos, negsuc, Some, None, Ok, Err, Option, Result, ◌==◌, int_lt, nat_le, nat_lt, slice_index}
use Rattle.std.specs.Option.{ok_or}
use Rattle.oxts.specs.declared.format.Format.{Format}
use Rattle.oxts.specs.Words.{unsigned16_at, unsigned32_at}
use Rattle.oxts_fields.specs.declared.layout.Form.{Form}
use Rattle.oxts_fields.specs.declared.layout.Form.TheVariants.{Unsigned1, Unsigned2, Unsigned4, Signed2, Signed4, LowNibble, HighNibble, UpperSeven}
use Rattle.oxts_fields.specs.declared.layout.Layout.{Layout}
use Rattle.oxts_fields.specs.declared.layout.Rule.{Rule}
use Rattle.oxts_fields.specs.declared.layout.Rule.TheVariants.{Always, AtLeast, Above, UpTo, Below, Not, ByteSixBelow, ByteSixIs, BitZeroSet}
use Rattle.oxts_fields.specs.declared.refusal.Refusal.{Refusal}
use Rattle.oxts_fields.specs.declared.refusal.Refusal.TheVariants.{NotHeard, NotValid}
use Rattle.oxts_fields.specs.Table.{layout_asked}

-- the bits of a field, as an unsigned number
abbrev pub pattern_of : Form → List ℕ → ℕ → ℕ
pattern_of Unsigned1 bs i = slice_index bs i
pattern_of Unsigned2 bs i = unsigned16_at bs i
pattern_of Unsigned4 bs i = unsigned32_at bs i
pattern_of Signed2 bs i = unsigned16_at bs i
pattern_of Signed4 bs i = unsigned32_at bs i
pattern_of LowNibble bs i = slice_index bs i % 16
pattern_of HighNibble bs i = slice_index bs i / 16
pattern_of UpperSeven bs i = slice_index bs i

-- n in two's complement, where half is the first pattern that is negative
abbrev pub signed_by : ℕ → ℕ → ℤ
signed_by half n = cond (nat_lt n half) (pos n) (negsuc (2 * half - 1 - n))

abbrev pub value_of : Form → ℕ → ℤ
value_of Unsigned1 n = pos n
value_of Unsigned2 n = pos n
value_of Unsigned4 n = pos n
value_of Signed2 n = signed_by 32768 (n % 65536)
value_of Signed4 n = signed_by 2147483648 n
value_of LowNibble n = pos n
value_of HighNibble n = pos n
value_of UpperSeven n = signed_by 64 (n % 256 / 2)

-- when a field is valid, from the channel's bytes, the field's bits n and its value z
abbrev pub valid_by : Rule → List ℕ → ℕ → ℤ → Bool
valid_by Always bs n z = true
valid_by (AtLeast m) bs n z = not (int_lt z (pos m))
valid_by (Above m) bs n z = int_lt (pos m) z
valid_by (UpTo m) bs n z = nat_le n m
valid_by (Below m) bs n z = nat_lt n m
valid_by (Not m) bs n z = not (n == m)
valid_by (ByteSixBelow m) bs n z = nat_lt (slice_index bs 6) m
valid_by (ByteSixIs m) bs n z = slice_index bs 6 == m
valid_by BitZeroSet bs n z = n % 2 == 1

-- the value of a field, where it is valid
abbrev pub field_value : List ℕ → Layout → Option ℤ
field_value bs l =
    let n = pattern_of l.form bs l.place in
    let z = value_of l.form n in
    cond (valid_by l.rule bs n z) (Some z) None

abbrev pub read_heard : Option (List ℕ) → Layout → Result ℤ Refusal
read_heard None l = Err NotHeard
read_heard (Some bs) l = ok_or (field_value bs l) NotValid

abbrev pub read_by : Option (List ℕ) → Result Layout Refusal → Result ℤ Refusal
read_by heard (Ok l) = read_heard heard l
read_by heard (Err x) = Err x

-- The value of field n of channel c, from the channel's eight bytes where it was heard: 9, 10, 11 and 12 in this order.
abbrev pub field_asked : Format → ℕ → ℕ → Option (List ℕ) → Result ℤ Refusal
field_asked f c n heard = read_by heard (layout_asked f c n)
