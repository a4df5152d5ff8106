-- What the law needs of a reading, and that every family has it.
use Rattle.std.proofs.Common.{◌≡◌, ℕ, zero, suc, ◌+◌, ◌<◌, List, [], ◌∷◌, ◌++◌, length, get_or, arith}
use Rattle.reading.specs.declared.message.Message.{Message}
use Rattle.reading.specs.Reading.{Model, Laws}
use Rattle.reading.specs.Keeps.{Numbered}
use Rattle.reading.proofs.Counted.{keeps}
use Rattle.law.specs.Calls.{messages_of}

-- More bytes bring more messages, behind those that are there; the k-th message has the number k.
pub record Follows {R : Type 0} (model : Model R) : Type 0 where
  pub grows : (bs more : List ℕ) → (ms : List Message) × (messages_of model (bs ++ more) ≡ messages_of model bs ++ ms)
  pub numbers : (bs : List ℕ) (k : ℕ) (d : Message) → k < length (messages_of model bs) → (get_or (messages_of model bs) k d).number ≡ k + 1

numbered : (n : ℕ) (ms : List Message) (k : ℕ) (d : Message) → Numbered n ms → k < length ms → (get_or ms k d).number ≡ k + n
numbered n [] k d h l = absurd (let z : ⊥ = omega arith in z)
numbered n (m ∷ ms) zero d h l = omega (arith, h.0)
numbered n (m ∷ ms) (suc k) d h l = let rest = numbered (n + 1) ms k d h.1 (omega arith) in omega (arith, rest)

pub follows_laws : {R : Type 0} (model : Model R) → Laws model → Follows model
follows_laws model laws =
    let k = keeps model laws in
    record { grows = k.grows; numbers = λ bs i d l. numbered 1 (messages_of model bs) i d (k.numbered bs) l }
