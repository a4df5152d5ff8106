-- Lengths that are judged to wait do not move the reading, and bytes at fault alone are silent steps of it.
use Rattle.std.proofs.Common.{◌≡◌, ℕ, zero, suc, ◌+◌, ◌-◌, ◌<◌, ◌≤◌, true, false, List, [], ◌∷◌, length, take, drop, sym, refl, ap, ◌∙◌, ⊎_elim, add-zero, arith}
use Rattle.std.proofs.lemmas.List.{append-nil, length-take-le, take-take}
use Rattle.std.proofs.lemmas.Bool.{cases_lt, both_ways}
use Rattle.reading.specs.declared.message.Defect.{Defect}
use Rattle.reading.specs.declared.message.Verdict.{Verdict}
use Rattle.reading.specs.declared.message.Verdict.TheVariants.{Wait, Early, Fault, Whole}
use Rattle.reading.specs.Reading.{Model, Tally, faulted, passed_over, resumed, Waits, Quiet, at_fault}
use Rattle.reading.proofs.Steps.{resumed_step, resumed_ends}

module _ {R : Type 0} (m : Model R) where
  jumped_by : (k : ℕ) (t : Tally R) (n : ℕ) (rest : List ℕ) → ((i : ℕ) → n < i → i ≤ n + k → i ≤ length rest → m.judge (take i rest) ≡ Wait) →
      resumed m t n rest ≡ resumed m t (n + k) rest
  jumped_by zero t n rest waits = rw add-zero
  jumped_by (suc k) t n rest waits =
      ⊎_elim
      (λ (h : n < length rest).
      let e : suc n + k ≡ n + suc k = omega arith in
      resumed_step m t n rest Wait h (waits (suc n) (omega arith) (omega arith) h) ∙ jumped_by k t (suc n) rest (λ i l b w. waits i (omega arith) (omega arith) w) ∙ ap (λ x. resumed m t x rest) e)
      (λ (h : length rest ≤ n). resumed_ends m t n rest h ∙ sym (resumed_ends m t (n + suc k) rest (omega arith)))
      (cases_lt n (length rest))

  -- from one check to the next
  pub jumped : (t : Tally R) (n r : ℕ) (rest : List ℕ) → n < r → n ≤ length rest → Waits m (take n rest) r → resumed m t n rest ≡ resumed m t (r - 1) rest
  jumped t n r rest above within waits =
      let size = length-take-le n rest within in
      let e : n + (r - 1 - n) ≡ r - 1 = omega arith in
      jumped_by (r - 1 - n) t n rest (λ i l b w.
      let short = length-take-le i rest w in
      let same : take (length (take n rest)) (take i rest) ≡ take n rest = ap (λ x. take x (take i rest)) size ∙ take-take n i rest (omega arith) in
      waits (take i rest) same (omega arith) (omega arith)) ∙ ap (λ x. resumed m t x rest) e

  silent : (d : Defect) (t : Tally R) → faulted 1 d t ≡ passed_over 1 t
  silent d t = simp (append-nil, add-zero)

  silent_by : (t : Tally R) (b : ℕ) (rest : List ℕ) (v : Verdict) → m.judge (b ∷ []) ≡ v → at_fault v ≡ true → resumed m t 0 (b ∷ rest) ≡ resumed m (passed_over 1 t) 0 rest
  silent_by t b rest Wait e h = absurd (both_ways false refl h)
  silent_by t b rest (Early x) e h = absurd (both_ways false refl h)
  silent_by t b rest (Fault d) e h = resumed_step m t 0 (b ∷ rest) (Fault d) (omega arith) e ∙ ap (λ u. resumed m u 0 rest) (silent d t)
  silent_by t b rest (Whole x) e h = absurd (both_ways false refl h)

  over_both : (t : Tally R) (q : ℕ) → passed_over q (passed_over 1 t) ≡ passed_over (suc q) t
  over_both t q = let e : t.skipped + 1 + q ≡ t.skipped + suc q = omega arith in rw e

  over_none : (t : Tally R) → passed_over 0 t ≡ t
  over_none t = simp add-zero

  -- q bytes at fault alone are q silent steps
  pub quieted : (q : ℕ) (t : Tally R) (rest : List ℕ) → q ≤ length rest → Quiet m rest q → resumed m t 0 rest ≡ resumed m (passed_over q t) 0 (drop q rest)
  quieted zero t rest h quiet = ap (λ u. resumed m u 0 rest) (sym (over_none t))
  quieted (suc q) t [] h quiet = absurd (let z : ⊥ = omega arith in z)
  quieted (suc q) t (b ∷ rest) h quiet =
      silent_by t b rest (m.judge (b ∷ [])) refl (quiet 0 (omega arith)) ∙ quieted q (passed_over 1 t) rest (omega arith) (λ i l. quiet (suc i) (omega arith)) ∙ ap (λ u. resumed m u 0 (drop q rest)) (over_both t q)
