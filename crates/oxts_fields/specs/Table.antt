-- The fields of the status channels, as runs of equal fields that lie one behind another.
use Rattle.std.specs.Prelude.{ℕ, ◌+◌, ◌-◌, ◌*◌, Bool, true, false, cond, ◌&&◌, List, [], ◌∷◌, Some, None, Err, Option, Result, ◌==◌, nat_le, nat_lt}
use Rattle.std.specs.List.{list_any}
use Rattle.std.specs.Option.{ok_or, option_or}
use Rattle.oxts.specs.declared.format.Format.{Format}
use Rattle.oxts.specs.declared.format.Format.TheVariants.{Ncom, Mcom}
use Rattle.oxts_fields.specs.declared.layout.Form.{Form}
use Rattle.oxts_fields.specs.declared.layout.Form.TheVariants.{Unsigned1, Unsigned2, Unsigned4, Signed2, Signed4, LowNibble, HighNibble, UpperSeven}
use Rattle.oxts_fields.specs.declared.layout.Rule.{Rule}
use Rattle.oxts_fields.specs.declared.layout.Rule.TheVariants.{Always, AtLeast, Above, UpTo, Below, Not, ByteSixBelow, ByteSixIs, BitZeroSet}
use Rattle.oxts_fields.specs.declared.layout.Layout.{Layout}
use Rattle.oxts_fields.specs.declared.refusal.Refusal.{Refusal}
use Rattle.oxts_fields.specs.declared.refusal.Refusal.TheVariants.{NoChannel, NoField}
use Rattle.oxts_fields.specs.declared.table.Formats.{Formats}
use Rattle.oxts_fields.specs.declared.table.Formats.TheVariants.{Both, NcomOnly, McomOnly}
use Rattle.oxts_fields.specs.declared.table.Run.{Run}

-- formats, channel, number of the first field, place of the first, form, rule, how many
abbrev pub run : Formats → ℕ → ℕ → ℕ → Form → Rule → ℕ → Run
run fs c f i form r n = (fs, c, f, i, form, r, n)

-- a run of no fields
abbrev pub no_run : Run
no_run = run Both 0 0 0 Unsigned1 Always 0

unfoldable pub field_table : List Run
field_table =
    run Both 0 0 0 Signed4 (AtLeast 1000) 1
    ∷ run Both 0 1 4 Unsigned1 (Not 255) 4
    ∷ run Both 13 0 0 Signed2 (ByteSixBelow 150) 3
    ∷ run Both 13 3 6 Unsigned1 Always 1
    ∷ run Both 13 4 7 LowNibble (Not 15) 1
    ∷ run Both 13 5 7 HighNibble (Not 15) 1
    ∷ run Both 14 0 0 Unsigned2 (ByteSixBelow 150) 3
    ∷ run Both 14 3 6 Unsigned1 Always 1
    ∷ run Both 14 4 7 LowNibble (Not 15) 1
    ∷ run Both 14 5 7 HighNibble (Not 15) 1
    ∷ run Both 15 0 0 Unsigned2 (ByteSixBelow 150) 3
    ∷ run Both 15 3 6 Unsigned1 Always 1
    ∷ run Both 15 4 7 LowNibble (Not 15) 1
    ∷ run Both 15 5 7 HighNibble (Not 15) 1
    ∷ run Both 16 0 0 Signed2 (ByteSixIs 0) 3
    ∷ run Both 16 3 6 Unsigned1 Always 1
    ∷ run Both 16 4 7 UpperSeven BitZeroSet 1
    ∷ run Both 17 0 0 Unsigned2 Always 4
    ∷ run Both 18 0 0 Unsigned4 Always 1
    ∷ run Both 18 1 4 Unsigned2 Always 2
    ∷ run Both 19 0 0 Unsigned1 Always 8
    ∷ run Both 20 0 0 Signed2 (Not 65535) 1
    ∷ run Both 20 1 2 Unsigned1 Always 4
    ∷ run Both 21 0 0 Signed4 (Above 0) 1
    ∷ run Both 21 1 4 Signed4 Always 1
    ∷ run NcomOnly 40 0 0 Unsigned2 (Not 0) 1
    ∷ run NcomOnly 41 0 0 Unsigned1 (UpTo 14) 3
    ∷ run McomOnly 41 0 0 Unsigned1 (UpTo 33) 3
    ∷ run Both 41 3 3 Unsigned1 (UpTo 6) 1
    ∷ run McomOnly 41 4 4 Unsigned1 (Below 255) 4
    ∷ run Both 44 0 0 Unsigned2 (Not 65535) 2
    ∷ run Both 45 0 0 Unsigned4 Always 1
    ∷ run Both 45 1 4 Unsigned2 (Below 60000) 1
    ∷ run Both 45 2 6 Unsigned1 (Not 255) 1
    ∷ run Both 46 0 0 Signed2 (ByteSixIs 0) 3
    ∷ run Both 46 3 6 Unsigned1 Always 1
    ∷ run Both 47 0 0 Unsigned2 (ByteSixIs 0) 3
    ∷ run Both 47 3 6 Unsigned1 Always 1
    ∷ run Both 48 0 0 Signed2 (Not 65535) 1
    ∷ run Both 48 1 2 Unsigned1 (Not 255) 2
    ∷ run Both 48 3 6 Unsigned1 (Not 255) 2
    ∷ []

abbrev pub serves : Formats → Format → Bool
serves Both f = true
serves NcomOnly Ncom = true
serves NcomOnly Mcom = false
serves McomOnly Ncom = false
serves McomOnly Mcom = true

-- how far a field lies behind the first of its run, where n fields of its form lie before it
abbrev pub offset : Form → ℕ → ℕ
offset Unsigned1 n = n
offset Unsigned2 n = 2 * n
offset Unsigned4 n = 4 * n
offset Signed2 n = 2 * n
offset Signed4 n = 4 * n
offset LowNibble n = 0
offset HighNibble n = 0
offset UpperSeven n = 0

-- the run is of channel c in format f
abbrev pub concerns : Format → ℕ → Run → Bool
concerns f c r = r.1 == c && serves r.0 f

-- the layout of field n of channel c, where the run has it
abbrev pub layout_in : Format → ℕ → ℕ → Run → Option Layout
layout_in f c n r =
    cond (concerns f c r && (nat_le r.2 n && nat_lt (n - r.2) r.6))
    (Some (record { place = r.3 + offset r.4 (n - r.2); form = r.4; rule = r.5 }))
    None

abbrev pub tabled : Format → ℕ → List Run → Bool
tabled f c = list_any (concerns f c)

-- the layout by the first run of a table that has it
abbrev pub layout_of : Format → ℕ → ℕ → List Run → Option Layout
layout_of f c n [] = None
layout_of f c n (r ∷ rs) = option_or (layout_in f c n r) (layout_of f c n rs)

-- the layout of a field by the table: 9 where the channel is not in it, and then 10 where the channel has no such field
abbrev pub layout_asked : Format → ℕ → ℕ → Result Layout Refusal
layout_asked f c n = cond (tabled f c field_table) (ok_or (layout_of f c n field_table) NoField) (Err NoChannel)
