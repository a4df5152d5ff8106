-- A format as a family of packets, for any record.
use Rattle.std.specs.Prelude.{ℕ, ◌<◌, List, ◌≢◌, slice_index}
use Rattle.reading.specs.Reading.{Model}
use Rattle.oxts.specs.declared.format.Format.{Format}
use Rattle.oxts.specs.Formats.{longest_of}
use Rattle.oxts_judge.specs.Judge.{judge_of}

abbrev pub oxts_model : {R : Type 0} → Format → R → (R → List ℕ → R) → Model R
oxts_model f first absorb = record { longest = longest_of f; judge = judge_of f; first = first; absorb = absorb }

-- with no record: what concerns the verdicts alone is said of this one
abbrev pub bare_model : Format → Model (Unit {0})
bare_model f = oxts_model f tt (λ r bs. tt)

-- None of the first r bytes is the sync byte.
abbrev pub NoSync : List ℕ → ℕ → Type 0
NoSync bs r = (i : ℕ) → i < r → slice_index bs i ≢ 231
