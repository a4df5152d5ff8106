-- The number of each refusal of a reader.
use Rattle.std.specs.Prelude.{ℕ}
use Rattle.reading.specs.declared.refusal.Refusal.{Refusal}
use Rattle.reading.specs.declared.refusal.Refusal.TheVariants.{PastLimit}

abbrev pub refusal_number : Refusal → ℕ
refusal_number PastLimit = 2
