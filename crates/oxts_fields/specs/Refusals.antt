-- The number of each refusal of a question to the record.
use Rattle.std.specs.Prelude.{ℕ}
use Rattle.oxts_fields.specs.declared.refusal.Refusal.{Refusal}
use Rattle.oxts_fields.specs.declared.refusal.Refusal.TheVariants.{NoChannel, NoField, NotHeard, NotValid}

abbrev pub refusal_number : Refusal → ℕ
refusal_number NoChannel = 9
refusal_number NoField = 10
refusal_number NotHeard = 11
refusal_number NotValid = 12
