-- The verdict at each length, and the laws of the family: an unknown status ends a place at 22 bytes, a known one at the last checksum.
use Rattle.std.specs.Prelude.{◌≡◌, ℕ, suc, ◌-◌, ◌<◌, ◌≤◌, true, false, List, length, take, Some, None, Option, ◌==◌, ◌≢◌, slice_index, refl}
use Rattle.std.proofs.Common.{sym, ap, ◌∙◌, arith}
use Rattle.std.proofs.lemmas.List.{length-take-le, get_or-take}
use Rattle.std.proofs.lemmas.Bool.{both_ways, cond-false, cond_both, ne_eqb, eqb-true}
use Rattle.reading.specs.declared.message.Body.{Body}
use Rattle.reading.specs.declared.message.Defect.{Defect}
use Rattle.reading.specs.declared.message.Verdict.{Verdict}
use Rattle.reading.specs.declared.message.Verdict.TheVariants.{Wait, Early, Fault, Whole}
use Rattle.reading.specs.Keeps.{InTurn, is_last}
use Rattle.reading.specs.Reading.{Laws, Open, Proper, proper, decided}
use Rattle.oxts_judge.specs.declared.cause.Cause.{Cause}
use Rattle.oxts_judge.specs.declared.cause.Cause.TheVariants.{InertialSum, SolutionSum, PacketSum}
use Rattle.oxts.specs.declared.format.Format.{Format}
use Rattle.oxts.specs.declared.format.Format.TheVariants.{Ncom, Mcom}
use Rattle.oxts.specs.declared.status.Structure.{Structure}
use Rattle.oxts.specs.declared.status.Structure.TheVariants.{StructureA, StructureB}
use Rattle.oxts.specs.Formats.{longest_of}
use Rattle.oxts.specs.Status.{structure_of}
use Rattle.oxts_judge.specs.Bodies.{inertial_body, solution_body, status_body, passed_body, packet_body}
use Rattle.oxts_judge.specs.Judge.{sum_defect, unless, structure_in, sync_verdict, status_verdict, early_verdict, inertial_verdict, solution_verdict, packet_verdict, judge_of}
use Rattle.oxts_judge.specs.Models.{oxts_model}

pub longest_above : (f : Format) → 62 < longest_of f
longest_above Ncom = omega arith
longest_above Mcom = omega arith

longest_fits : (f : Format) → longest_of f ≤ 264
longest_fits Ncom = omega arith
longest_fits Mcom = omega arith

pub at_1 : (f : Format) (bs : List ℕ) → length bs ≡ 1 → judge_of f bs ≡ sync_verdict (slice_index bs 0)
at_1 f bs e = rw e

pub at_22 : (f : Format) (bs : List ℕ) → length bs ≡ 22 → judge_of f bs ≡ status_verdict (structure_in bs) (slice_index bs 21)
at_22 f bs e = rw e

pub at_23 : (f : Format) (bs : List ℕ) → length bs ≡ 23 → judge_of f bs ≡ inertial_verdict (structure_in bs) bs
at_23 f bs e = rw e

pub at_62 : (f : Format) (bs : List ℕ) → length bs ≡ 62 → judge_of f bs ≡ solution_verdict (structure_in bs) bs
at_62 f bs e = rw e

pub at_longest : (f : Format) (bs : List ℕ) → length bs ≡ longest_of f → judge_of f bs ≡ packet_verdict f (structure_in bs) bs
at_longest Ncom bs e = rw e
at_longest Mcom bs e = rw e

pub at_others : (f : Format) (bs : List ℕ) → (length bs ≢ 1) → (length bs ≢ 22) → (length bs ≢ 23) → (length bs ≢ 62) →
    (length bs ≢ longest_of f) → judge_of f bs ≡ Wait
at_others f bs a b c d e =
    cond-false _ _ _ (ne_eqb _ 1 a) ∙ cond-false _ _ _ (ne_eqb _ 22 b) ∙ cond-false _ _ _ (ne_eqb _ 23 c) ∙ cond-false _ _ _ (ne_eqb _ 62 d)
    ∙ cond-false _ _ _ (ne_eqb _ (longest_of f) e)

-- the verdict on the first 22 bytes of longer ones
pub front_22 : (f : Format) (bs : List ℕ) → 22 ≤ length bs → judge_of f (take 22 bs) ≡ status_verdict (structure_in bs) (slice_index bs 21)
front_22 f bs h = at_22 f (take 22 bs) (length-take-le 22 bs h) ∙ ap (λ s. status_verdict (structure_of s) s) (get_or-take 22 bs 21 0 (omega arith))

-- What holds of each verdict that the rules name holds of the verdict on bs.
module _ (f : Format) (bs : List ℕ) (P : Verdict → Type 0) (wait : P Wait) (fault : (d : Defect) → P (Fault d)) (inertial : P (Early (inertial_body bs))) (solution : P (Early (solution_body bs)))
    (packet : (t : Structure) → length bs ≡ longest_of f → structure_in bs ≡ Some t → sum_defect PacketSum (longest_of f - 1) bs ≡ None → P (Whole (packet_body f t bs))) where
  of_sum : (o : Option Defect) (v : Verdict) → (o ≡ None → P v) → P (unless o v)
  of_sum None v p = p refl
  of_sum (Some d) v p = fault d

  of_status : (o : Option Structure) (s : ℕ) → P (status_verdict o s)
  of_status None s = fault _
  of_status (Some t) s = wait

  of_early : (c : Cause) (told : List ℕ → Body) (n : ℕ) → P (Early (told bs)) → (o : Option Structure) → P (early_verdict c told n o bs)
  of_early c told n p None = wait
  of_early c told n p (Some StructureA) = of_sum (sum_defect c n bs) (Early (told bs)) (λ e. p)
  of_early c told n p (Some StructureB) = wait

  of_packet : length bs ≡ longest_of f → (o : Option Structure) → structure_in bs ≡ o → P (packet_verdict f o bs)
  of_packet long None e = wait
  of_packet long (Some t) e = of_sum (sum_defect PacketSum (longest_of f - 1) bs) (Whole (packet_body f t bs)) (packet t long e)

  pub of_every : P (judge_of f bs)
  of_every =
      cond_both (length bs == 1) (sync_verdict (slice_index bs 0)) _ P (λ _. cond_both (slice_index bs 0 == 231) Wait _ P (λ _. wait) (λ _. fault _)) (λ _.
      cond_both (length bs == 22) (status_verdict (structure_in bs) (slice_index bs 21)) _ P (λ _. of_status (structure_in bs) (slice_index bs 21)) (λ _.
      cond_both (length bs == 23) (inertial_verdict (structure_in bs) bs) _ P (λ _. of_early InertialSum inertial_body 22 inertial (structure_in bs)) (λ _.
      cond_both (length bs == 62) (solution_verdict (structure_in bs) bs) _ P (λ _. of_early SolutionSum solution_body 61 solution (structure_in bs)) (λ _.
      cond_both (length bs == longest_of f) (packet_verdict f (structure_in bs) bs) Wait P (λ e. of_packet (eqb-true _ _ e) (structure_in bs) refl) (λ _. wait)))))

packet_proper : (f : Format) (t : Structure) (bs : List ℕ) → proper (packet_body f t bs).kind ≡ true
unfolding status_body passed_body
packet_proper f StructureA bs = refl
packet_proper f StructureB bs = refl

packet_last : (f : Format) (t : Structure) (bs : List ℕ) → is_last (packet_body f t bs).kind ≡ true
unfolding status_body passed_body
packet_last f StructureA bs = refl
packet_last f StructureB bs = refl

kinds : (f : Format) (bs : List ℕ) → Proper (judge_of f bs)
unfolding inertial_body solution_body
kinds f bs = of_every f bs Proper tt (λ d. tt) refl refl (λ t long known sum. packet_proper f t bs)

-- Early verdicts and whole ones are of the kinds that come in turn.
pub oxts_in_turn : (f : Format) (bs : List ℕ) → InTurn (judge_of f bs)
unfolding inertial_body solution_body
oxts_in_turn f bs = of_every f bs InTurn tt (λ d. tt) refl refl (λ t long known sum. packet_last f t bs)

sum_decides : (o : Option Defect) (b : Body) → decided (unless o (Whole b)) ≡ true
sum_decides None b = refl
sum_decides (Some d) b = refl

-- the status was known, or the fault came at 22 bytes
known : (f : Format) (o : Option Structure) (s : ℕ) (bs : List ℕ) → decided (status_verdict o s) ≡ false → decided (packet_verdict f o bs) ≡ true
known f None s bs open22 = absurd (both_ways true open22 refl)
known f (Some t) s bs open22 = sum_decides _ (packet_body f t bs)

decides : (f : Format) (bs : List ℕ) (n : ℕ) → suc n ≡ longest_of f → length bs ≡ longest_of f → Open (judge_of f) bs n → decided (judge_of f bs) ≡ true
decides f bs n k e o =
    let above = longest_above f in
    let open22 : decided (status_verdict (structure_in bs) (slice_index bs 21)) ≡ false =
    sym (ap decided (front_22 f bs (omega arith))) ∙ o 22 (omega arith) (omega arith) in
    ap decided (at_longest f bs e) ∙ known f (structure_in bs) (slice_index bs 21) bs open22

pub oxts_laws : {R : Type 0} (f : Format) (first : R) (absorb : R → List ℕ → R) → Laws (oxts_model f first absorb)
oxts_laws f first absorb = record { at_least = omega (arith, longest_above f); at_most = longest_fits f; kinds = kinds f; decides = decides f }
