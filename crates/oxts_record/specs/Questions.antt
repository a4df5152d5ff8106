-- Fields and full time, asked of what packets left behind.
use Rattle.std.specs.Prelude.{ℕ, ◌+◌, ◌*◌, cond, ◌&&◌, List, ℤ, Some, None, Ok, Err, Option, Result, nat_le, nat_lt}
use Rattle.oxts.specs.declared.format.Format.{Format}
use Rattle.oxts.specs.Words.{unsigned32_at}
use Rattle.oxts_fields.specs.declared.refusal.Refusal.{Refusal}
use Rattle.oxts_fields.specs.declared.refusal.Refusal.TheVariants.{NotHeard, NotValid}
use Rattle.oxts_fields.specs.Fields.{field_asked}
use Rattle.oxts_record.specs.declared.navigation.Navigation.{Navigation}
use Rattle.oxts_record.specs.Navigations.{channel_of}

-- the bytes of a channel that was heard; there is none above 255
abbrev pub heard_bytes : Navigation → ℕ → Option (List ℕ)
heard_bytes n c = cond (nat_lt c 256) (channel_of n c) None

abbrev pub field_of : Format → Navigation → ℕ → ℕ → Result ℤ Refusal
field_of f n c k = field_asked f c k (heard_bytes n c)

-- channel 0 begins with minutes, the pattern of a signed number of 32 bits
abbrev pub minutes_in : List ℕ → ℕ
minutes_in bs = unsigned32_at bs 0

-- Minutes from 1,000 up, a status neither 0 nor 1, and a time up to 59,999: then minutes and time, in milliseconds.
abbrev pub time_from : ℕ → ℕ → Option ℕ → Result ℕ Refusal
time_from minutes status None = Err NotValid
time_from minutes status (Some t) =
    cond (nat_le 1000 minutes && (nat_le minutes 2147483647 && (nat_lt 1 status && nat_le t 59999))) (Ok (minutes * 60000 + t)) (Err NotValid)

abbrev pub time_with : Navigation → Option (List ℕ) → Result ℕ Refusal
time_with n None = Err NotHeard
time_with n (Some bs) = time_from (minutes_in bs) n.latest.status n.latest.time

-- 11 where channel 0 was not heard, and then 12
abbrev pub full_time_of : Navigation → Result ℕ Refusal
full_time_of n = time_with n (channel_of n 0)
