-- The reading in the subject's words: what happens at a place, and that nothing else does.
use Rattle.std.specs.Prelude.{◌≡◌, ℕ, zero, suc, ◌-◌, ◌≤◌, ◌⊎◌, List, length, take, drop}
use Rattle.reading.specs.declared.message.Body.{Body}
use Rattle.reading.specs.declared.message.Defect.{Defect}
use Rattle.reading.specs.declared.message.Verdict.{Verdict}
use Rattle.reading.specs.declared.message.Verdict.TheVariants.{Wait, Early, Fault, Whole}
use Rattle.reading.specs.Reading.{Model, Tally, Reading, told, faulted, completed, read, reading, nothing, Open}

-- Where `rest` is left at a place: the string ends before any prefix is at fault or whole.
abbrev pub Holds : {R : Type 0} → Model R → List ℕ → Type 0
Holds m rest = Open m.judge rest (length rest)

-- The prefix of n bytes is at fault, and no shorter one is at fault or whole.
pub record Skips {R : Type 0} (m : Model R) (rest : List ℕ) (n : ℕ) (d : Defect) : Type 0 where
  pub some : 1 ≤ n
  pub within : n ≤ length rest
  pub before : Open m.judge rest (n - 1)
  pub here : m.judge (take n rest) ≡ Fault d

-- The prefix of n bytes is whole, and no shorter one is at fault or whole.
pub record Accepts {R : Type 0} (m : Model R) (rest : List ℕ) (n : ℕ) (b : Body) : Type 0 where
  pub some : 1 ≤ n
  pub within : n ≤ length rest
  pub before : Open m.judge rest (n - 1)
  pub here : m.judge (take n rest) ≡ Whole b

-- The reading of `rest` from a place on, where t was read before it.
abbrev pub from : {R : Type 0} → Model R → Tally R → List ℕ → Reading R
from m t rest = read m (length rest) t rest

-- t with the message of an early verdict
abbrev pub hear : {R : Type 0} → Verdict → Tally R → Tally R
hear Wait t = t
hear (Early b) t = told b t
hear (Fault d) t = t
hear (Whole b) t = t

-- t with the messages of the early verdicts on the prefixes of 1 to n bytes
abbrev pub heard : {R : Type 0} → Model R → Tally R → List ℕ → ℕ → Tally R
heard m t rest zero = t
heard m t rest (suc n) = hear (m.judge (take (suc n) rest)) (heard m t rest n)

pub record Rules {R : Type 0} (m : Model R) : Type 0 where
  -- the reading begins at place 0
  pub begins : (bs : List ℕ) → reading m bs ≡ from m (nothing m) bs
  -- at each place one of three things happens
  pub happens : (rest : List ℕ) → Holds m rest ⊎ (((n : ℕ) × (d : Defect) × Skips m rest n d) ⊎ ((n : ℕ) × (b : Body) × Accepts m rest n b))
  -- the string ends first: the bytes from the place on are held
  pub holds : (t : Tally R) (rest : List ℕ) → Holds m rest → from m t rest ≡ record { tally = heard m t rest (length rest); held = rest }
  -- a fault skips one byte, and the next place is one further
  pub skips : (t : Tally R) (rest : List ℕ) (n : ℕ) (d : Defect) → Skips m rest n d → from m t rest ≡ from m (faulted n d (heard m t rest (n - 1))) (drop 1 rest)
  -- a whole of n bytes accepts them, and the next place is n further
  pub accepts : (t : Tally R) (rest : List ℕ) (n : ℕ) (b : Body) → Accepts m rest n b → from m t rest ≡ from m (completed m (take n rest) b (heard m t rest (n - 1))) (drop n rest)
