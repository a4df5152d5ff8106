-- The byte string that a reader stands for, and what feeding it does.
use Rattle.std.specs.Prelude.{◌≡◌, ℕ, ◌+◌, ◌^◌, ◌<◌, ◌≤◌, List, ◌++◌, length, Ok, Err, Result}
use Rattle.reading.specs.declared.family.Family.{Ghosts}
use Rattle.reading.specs.declared.refusal.Refusal.{Refusal}
use Rattle.reading.specs.declared.message.Message.{Message}
use Rattle.reader.specs.declared.reader.Reader.{Reader}
use Rattle.reading.specs.Reading.{Model, reading}
pub use Rattle.reading.specs.Questions.{counts_of}
use Rattle.reader.specs.Held.{bytes}
use Rattle.reader.specs.Ledgers.{Agrees, Handed}

-- The counts, the latest message, the record and the window are those of the reading of bs.
pub record Stands {F R : Type 0} {G : Ghosts F R} (m : Model R) (r : Reader F R G) (bs : List ℕ) : Type 0 where
  pub pumped : r.pumped ≡ length bs
  pub held : bytes r.window ≡ (reading m bs).held
  pub agrees : Agrees r.ledger (reading m bs).tally

-- The sink s was handed what the reading of `more` has beyond that of bs, and is u now.
pub record News {R S : Type 0} (m : Model R) (bs more : List ℕ) (took : S → Message → S → Type 0) (s u : S) : Type 0 where
  pub messages : List Message
  pub beyond : (reading m more).tally.messages ≡ (reading m bs).tally.messages ++ messages
  pub handed : Handed took s messages u

-- A reader r and a sink s have read xs, and are r' and s' now, whatever r stood for.
abbrev pub Ran : {F R S : Type 0} {G : Ghosts F R} → Model R → (S → Message → S → Type 0) → Reader F R G → S → List ℕ → Reader F R G → S → Type 0
Ran m took r s xs r' s' = (bs : List ℕ) → Stands m r bs → Stands m r' (bs ++ xs) × News m bs (bs ++ xs) took s s'

-- Feeding xs reads all of them, or is refused since there would be more than 2^40 bytes, and then nothing changes.
abbrev pub Fed : {F R S : Type 0} {G : Ghosts F R} → Model R → (S → Message → S → Type 0) → Reader F R G → List ℕ → S → Reader F R G → S → Result (Unit {0}) Refusal → Type 0
Fed m took r xs s r' s' (Ok x) = (r.pumped + length xs ≤ 2 ^ 40) × Ran m took r s xs r' s'
Fed m took r xs s r' s' (Err x) = (2 ^ 40 < r.pumped + length xs) × (r' ≡ r) × (s' ≡ s)
