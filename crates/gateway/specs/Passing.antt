-- What a pump passes, and its refusals.
use Rattle.std.specs.Prelude.{◌≡◌, ℕ, ◌<◌, ◌≤◌, List, length, drop, Ok, Err, Result}
use Rattle.law.specs.Calls.{Answer, refused, passed}
use Rattle.gateway.specs.declared.refusal.PumpRefusal.{PumpRefusal}
use Rattle.gateway.specs.declared.refusal.PumpRefusal.TheVariants.{BadLimit, PastMost}

-- A line in which `waits` waited was asked once for at most so many bytes: k came, and `rest` waits now.
pub record Drawn (waits : List ℕ) (most k : ℕ) (rest : List ℕ) : Type 0 where
  pub fits : k ≤ most
  pub waited : k ≤ length waits
  pub some : 0 < length waits → 0 < most → 0 < k
  pub left : rest ≡ drop k waits

abbrev pub pump_number : PumpRefusal → ℕ
pump_number (BadLimit limit) = 1
pump_number (PastMost limit) = 2

-- The result of a pump as the law's answer, where `rest` waits in the line afterwards.
abbrev pub pump_result : Result ℕ PumpRefusal → (rest : List ℕ) → Answer
pump_result (Ok n) rest = passed n rest
pump_result (Err e) rest = refused (pump_number e)

-- How many bytes came.
abbrev pub passed_by : Result ℕ PumpRefusal → ℕ
passed_by (Ok n) = n
passed_by (Err e) = 0

-- A refusal names the limit that was given.
abbrev pub PumpNames : (limit : ℕ) → Result ℕ PumpRefusal → Type 0
PumpNames limit (Ok n) = Unit {0}
PumpNames limit (Err (BadLimit l)) = l ≡ limit
PumpNames limit (Err (PastMost l)) = l ≡ limit
