-- The families by name.
use Rattle.std.specs.Prelude.{◌≡◌, ℕ, List, Some, None, codes, Option, ◌≢◌}
use Rattle.oxts.specs.declared.format.Format.{Format}
use Rattle.oxts.specs.declared.format.Format.TheVariants.{Ncom, Mcom}

-- The word is the name of that family, or of none.
abbrev pub Names : List ℕ → Option Format → Type 0
Names word (Some Ncom) = word ≡ codes "ncom"
Names word (Some Mcom) = word ≡ codes "mcom"
Names word None = (word ≢ codes "ncom") × (word ≢ codes "mcom")
