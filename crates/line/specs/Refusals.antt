-- The number of each refusal.
use Rattle.std.specs.Prelude.{ℕ}
use Rattle.line.specs.declared.refusal.GrantRefusal.{GrantRefusal}
use Rattle.line.specs.declared.refusal.GrantRefusal.TheVariants.{AboveMost}
use Rattle.line.specs.declared.refusal.RecordRefusal.{RecordRefusal}
use Rattle.line.specs.declared.refusal.RecordRefusal.TheVariants.{Malformed}

abbrev pub grant_number : GrantRefusal → ℕ
grant_number (AboveMost credit) = 3

abbrev pub record_number : RecordRefusal → ℕ
record_number (Malformed place) = 16
