-- Prefixes that are neither at fault nor whole; where all are, less is left than the longest packet has.
use Rattle.std.proofs.Common.{◌≡◌, ℕ, suc, ◌-◌, ◌<◌, ◌≤◌, false, List, length, take, drop, ap, ⊎_elim, arith}
use Rattle.std.proofs.lemmas.List.{length-take-le, take-take}
use Rattle.std.proofs.lemmas.Bool.{cases_lt, both_ways}
use Rattle.reading.specs.declared.message.Verdict.{Verdict}
use Rattle.reading.specs.declared.message.Verdict.TheVariants.{Wait, Early, Fault, Whole}
use Rattle.reading.specs.Reading.{Model, Laws, Tally, reading, decided, Open}
use Rattle.reading.proofs.Steps.{After, reading_keeps}

module _ {R : Type 0} (m : Model R) where
  -- one more prefix that is neither at fault nor whole
  pub open_more : (rest : List ℕ) (n : ℕ) → Open m.judge rest n → decided (m.judge (take (suc n) rest)) ≡ false → Open m.judge rest (suc n)
  open_more rest n o here i l h =
      ⊎_elim (λ (b : i < suc n). o i l (omega arith)) (λ (b : suc n ≤ i). let e : i ≡ suc n = omega arith in rw e here) (cases_lt i (suc n))

  pub open_none : (rest : List ℕ) → Open m.judge rest 0
  open_none rest i l h = absurd (let z : ⊥ = omega arith in z)

  abbrev Openly : Tally R → ℕ → List ℕ → Type 0
  Openly t n rest = Open m.judge rest n

  open_keeps : (t : Tally R) (n : ℕ) (rest : List ℕ) (v : Verdict) → n < length rest → m.judge (take (suc n) rest) ≡ v → Openly t n rest → After m Openly t (suc n) rest v
  open_keeps t n rest Wait h e o = open_more rest n o (ap decided e)
  open_keeps t n rest (Early b) h e o = open_more rest n o (ap decided e)
  open_keeps t n rest (Fault d) h e o = open_none (drop 1 rest)
  open_keeps t n rest (Whole b) h e o = open_none (drop (suc n) rest)

  pub held_open : (bs : List ℕ) → Open m.judge (reading m bs).held (length (reading m bs).held)
  held_open bs = reading_keeps m Openly open_keeps bs (open_none bs)

  open_short : Laws m → (rest : List ℕ) → Open m.judge rest (length rest) → length rest < m.longest
  open_short laws rest o = ⊎_elim (λ h. h) (λ (h : m.longest ≤ length rest). absurd (never h)) (cases_lt (length rest) m.longest)
    where
      never : m.longest ≤ length rest → ⊥
      never h =
          let one = laws.at_least in
          let front : List ℕ = take m.longest rest in
          let some : suc (m.longest - 1) ≡ m.longest = omega arith in
          let opens : Open m.judge front (m.longest - 1) = (λ i l b. let within : i ≤ m.longest = omega arith in rw (take-take i m.longest rest within) (o i l (omega arith))) in
          both_ways (decided (m.judge front)) (o m.longest one h) (laws.decides front (m.longest - 1) some (length-take-le m.longest rest h) opens)

  pub held_short : Laws m → (bs : List ℕ) → length (reading m bs).held < m.longest
  held_short laws bs = open_short laws (reading m bs).held (held_open bs)
