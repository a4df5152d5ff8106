-- The rules of the reading.
use Rattle.std.proofs.Common.{◌≡◌, ℕ, zero, suc, ◌-◌, ◌≤◌, false, ◌⊎◌, List, length, take, drop, sym, refl, ap, ◌∙◌, inl, inr, ⊎_elim, arith}
use Rattle.std.proofs.lemmas.Bool.{true≢false}
use Rattle.reading.specs.declared.message.Body.{Body}
use Rattle.reading.specs.declared.message.Defect.{Defect}
use Rattle.reading.specs.declared.message.Verdict.{Verdict}
use Rattle.reading.specs.declared.message.Verdict.TheVariants.{Wait, Early, Fault, Whole}
use Rattle.reading.specs.Reading.{Model, Tally, faulted, completed, reading, resumed, ruled, decided, Open}
use Rattle.reading.specs.Rules.{Skips, Accepts, from, hear, heard, Rules}
use Rattle.reading.proofs.Opens.{open_more, open_none}
use Rattle.reading.proofs.Steps.{resumed_start, resumed_step, resumed_here, resumed_ends}

module _ {R : Type 0} (m : Model R) where
  heard_step : (t : Tally R) (n : ℕ) (rest : List ℕ) (v : Verdict) → decided v ≡ false →
      ruled m (λ u. resumed m u (suc n) rest) (λ u r. resumed m u 0 r) t (suc n) rest v ≡ resumed m (hear v t) (suc n) rest
  heard_step t n rest Wait e = refl
  heard_step t n rest (Early b) e = refl
  heard_step t n rest (Fault d) e = absurd (true≢false e)
  heard_step t n rest (Whole b) e = absurd (true≢false e)

  heard_on : (t : Tally R) (rest : List ℕ) (n : ℕ) → n ≤ length rest → Open m.judge rest n → from m t rest ≡ resumed m (heard m t rest n) n rest
  heard_on t rest zero h o = sym (resumed_start m t rest)
  heard_on t rest (suc n) h o =
      let v = m.judge (take (suc n) rest) in
      let u = heard m t rest n in
      heard_on t rest n (omega arith) (λ i l b. o i l (omega arith)) ∙ resumed_step m u n rest v h refl ∙ heard_step u n rest v (o (suc n) (omega arith) (omega arith))

  -- the prefix of n bytes is judged, and no shorter one is at fault or whole
  judged_at : (t : Tally R) (rest : List ℕ) (n : ℕ) (v : Verdict) → 1 ≤ n → n ≤ length rest → Open m.judge rest (n - 1) → m.judge (take n rest) ≡ v →
      from m t rest ≡ ruled m (λ u. resumed m u n rest) (λ u r. resumed m u 0 r) (heard m t rest (n - 1)) n rest v
  judged_at t rest n v some within before here = heard_on t rest (n - 1) (omega arith) before ∙ resumed_here m (heard m t rest (n - 1)) n rest v some within here

  abbrev Ends : List ℕ → Type 0
  Ends rest = ((n : ℕ) × (d : Defect) × Skips m rest n d) ⊎ ((n : ℕ) × (b : Body) × Accepts m rest n b)

  next_prefix : (rest : List ℕ) (n : ℕ) → suc n ≤ length rest → Open m.judge rest n → (v : Verdict) → m.judge (take (suc n) rest) ≡ v → Open m.judge rest (suc n) ⊎ Ends rest
  next_prefix rest n h o Wait e = inl (open_more m rest n o (ap decided e))
  next_prefix rest n h o (Early b) e = inl (open_more m rest n o (ap decided e))
  next_prefix rest n h o (Fault d) e =
      let same : suc n - 1 ≡ n = omega arith in
      inr (inl (suc n, d, record { some = omega arith; within = h; before = rw same o; here = e }))
  next_prefix rest n h o (Whole b) e =
      let same : suc n - 1 ≡ n = omega arith in
      inr (inr (suc n, b, record { some = omega arith; within = h; before = rw same o; here = e }))

  happens_by : (rest : List ℕ) (n : ℕ) → n ≤ length rest → Open m.judge rest n ⊎ Ends rest
  happens_by rest zero h = inl (open_none m rest)
  happens_by rest (suc n) h = ⊎_elim (λ o. next_prefix rest n h o (m.judge (take (suc n) rest)) refl) inr (happens_by rest n (omega arith))

  pub rules : Rules m
  unfolding reading
  rules =
      record {
        begins = λ bs. refl;
        happens = λ rest. happens_by rest (length rest) (omega arith);
        holds = λ t rest o. heard_on t rest (length rest) (omega arith) o ∙ resumed_ends m (heard m t rest (length rest)) (length rest) rest (omega arith);
        skips = λ t rest n d s. judged_at t rest n (Fault d) s.some s.within s.before s.here ∙ resumed_start m (faulted n d (heard m t rest (n - 1))) (drop 1 rest);
        accepts = λ t rest n b s. judged_at t rest n (Whole b) s.some s.within s.before s.here ∙ resumed_start m (completed m (take n rest) b (heard m t rest (n - 1))) (drop n rest);
      }
