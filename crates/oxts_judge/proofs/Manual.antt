-- The packets that the manuals describe are those that are accepted. Between the two stand the checks on a packet's bytes.
use Rattle.std.proofs.Common.{◌≡◌, ℕ, ◌+◌, ◌-◌, ◌<◌, ◌≤◌, Bool, true, false, cond, eqb, ◌⊎◌, List, length, get_or, take, drop, Some, None, Option, sym, refl, ap, ◌∙◌, inl, inr, ⊎_elim, arith}
use Rattle.std.proofs.lemmas.List.{length-take-le, get_or-take, take-take, drop-take}
use Rattle.std.proofs.lemmas.Bool.{cases_eq, cond-true, eqb-true, eq-eqb}
use Rattle.reading.specs.declared.message.Body.{Body}
use Rattle.reading.specs.declared.message.Defect.{Defect}
use Rattle.reading.specs.declared.message.Verdict.TheVariants.{Wait, Early, Fault, Whole}
use Rattle.reading.specs.Reading.{Open, decided}
use Rattle.reading.specs.Rules.{Accepts}
use Rattle.oxts_judge.specs.declared.cause.Cause.{Cause}
use Rattle.oxts_judge.specs.declared.cause.Cause.TheVariants.{InertialSum, SolutionSum, PacketSum}
use Rattle.oxts.specs.declared.format.Format.{Format}
use Rattle.oxts.specs.declared.status.Structure.{Structure}
use Rattle.oxts.specs.declared.status.Structure.TheVariants.{StructureA, StructureB}
use Rattle.oxts.specs.Formats.{longest_of}
use Rattle.oxts.specs.Status.{is_structure_a, structure_of}
use Rattle.oxts_judge.specs.Bodies.{inertial_body, solution_body, status_body, passed_body, packet_body}
use Rattle.oxts_judge.specs.Judge.{sum_of, sum_before, defect, sum_defect, unless, structure_in, sync_verdict, status_verdict, early_verdict, packet_verdict, judge_of}
use Rattle.oxts_judge.specs.Lawful.{longest_above, at_1, at_23, at_62, at_longest, at_others, front_22, of_every}
use Rattle.oxts_judge.specs.Models.{oxts_model}
use Rattle.oxts_judge.specs.Packets.{StructureAPacket, StructureBPacket, Begins, AcceptsPackets}

abbrev wrong : Option Defect → Bool
wrong None = false
wrong (Some d) = true

-- w in structure-A, which alone has the first two checksums
abbrev if_a : Structure → Bool → Bool
if_a StructureA w = w
if_a StructureB w = false

-- all that is checked of a packet's bytes
record Checked (f : Format) (t : Structure) (p : List ℕ) : Type 0 where
  pub long : length p ≡ longest_of f
  pub sync : get_or p 0 0 ≡ 231
  pub known : structure_in p ≡ Some t
  pub first : if_a t (wrong (sum_defect InertialSum 22 p)) ≡ false
  pub second : if_a t (wrong (sum_defect SolutionSum 61 p)) ≡ false
  pub third : sum_defect PacketSum (longest_of f - 1) p ≡ None

-- A front of a packet has the same sums.
sum_in : (n m : ℕ) (p : List ℕ) → n < m → sum_before n (take m p) ≡ sum_before n p
sum_in n m p h =
    let size : m ≡ 1 + (m - 1) = omega arith in
    let cut : drop 1 (take m p) ≡ take (m - 1) (drop 1 p) = ap (λ z. drop 1 (take z p)) size ∙ drop-take 1 (m - 1) p in
    ap (λ xs. sum_of (take (n - 1) xs)) cut ∙ ap sum_of (take-take (n - 1) (m - 1) (drop 1 p) (omega arith))

defect_in : (k : Cause) (n m : ℕ) (p : List ℕ) → n < m → sum_defect k n (take m p) ≡ sum_defect k n p
defect_in k n m p h =
    let found : get_or (take m p) n 0 ≡ get_or p n 0 = get_or-take m p n 0 h in
    let sums : sum_before n (take m p) ≡ sum_before n p = sum_in n m p h in
    λ i. cond (eqb (found i) (sums i)) None (Some (defect k (found i) (sums i)))

sum_right : (k : Cause) (n : ℕ) (p : List ℕ) → get_or p n 0 ≡ sum_before n p → sum_defect k n p ≡ None
sum_right k n p e = cond-true _ _ _ (eq-eqb _ _ e)

test_right : (b : Bool) (d : Defect) → wrong (cond b None (Some d)) ≡ false → b ≡ true
test_right true d e = refl
test_right false d e = cc

right_sum : (k : Cause) (n : ℕ) (p : List ℕ) → wrong (sum_defect k n p) ≡ false → get_or p n 0 ≡ sum_before n p
right_sum k n p e = eqb-true _ _ (test_right (eqb (get_or p n 0) (sum_before n p)) _ e)

-- Whether the fronts of a packet are at fault.
early : (d : Option Defect) (b : Body) → decided (unless d (Early b)) ≡ wrong d
early None b = refl
early (Some d) b = refl

early_decided : (k : Cause) (told : List ℕ → Body) (n : ℕ) (t : Structure) (p : List ℕ) → decided (early_verdict k told n (Some t) p) ≡ if_a t (wrong (sum_defect k n p))
early_decided k told n StructureA p = early (sum_defect k n p) (told p)
early_decided k told n StructureB p = refl

known_in : (m : ℕ) (t : Structure) (p : List ℕ) → 21 < m → structure_in p ≡ Some t → structure_in (take m p) ≡ Some t
known_in m t p h e = ap structure_of (get_or-take m p 21 0 h) ∙ e

module _ (f : Format) (p : List ℕ) (long : length p ≡ longest_of f) where
  front_1 : judge_of f (take 1 p) ≡ sync_verdict (get_or p 0 0)
  front_1 = at_1 f (take 1 p) (length-take-le 1 p (omega (arith, longest_above f))) ∙ ap sync_verdict (get_or-take 1 p 0 0 (omega arith))

  -- the front of m bytes, where a batch ends
  front_early : (k : Cause) (told : List ℕ → Body) (n m : ℕ) → n < m → 21 < m → m ≤ 62 → ((bs : List ℕ) → length bs ≡ m → judge_of f bs ≡ early_verdict k told n (structure_in bs) bs) →
      (t : Structure) → structure_in p ≡ Some t → decided (judge_of f (take m p)) ≡ if_a t (wrong (sum_defect k n p))
  front_early k told n m behind status short at t e =
      ap decided (at (take m p) (length-take-le m p (omega (arith, longest_above f))) ∙ ap (λ o. early_verdict k told n o (take m p)) (known_in m t p status e))
      ∙ early_decided k told n t (take m p) ∙ ap (λ d. if_a t (wrong d)) (defect_in k n m p behind)

  front_23 : (t : Structure) → structure_in p ≡ Some t → decided (judge_of f (take 23 p)) ≡ if_a t (wrong (sum_defect InertialSum 22 p))
  front_23 = front_early InertialSum inertial_body 22 23 (omega arith) (omega arith) (omega arith) (at_23 f)

  front_62 : (t : Structure) → structure_in p ≡ Some t → decided (judge_of f (take 62 p)) ≡ if_a t (wrong (sum_defect SolutionSum 61 p))
  front_62 = front_early SolutionSum solution_body 61 62 (omega arith) (omega arith) (omega arith) (at_62 f)

-- what a whole verdict b tells of the packet
record Told (f : Format) (p : List ℕ) (b : Body) : Type 0 where
  pub structure : Structure
  pub long : length p ≡ longest_of f
  pub known : structure_in p ≡ Some structure
  pub third : sum_defect PacketSum (longest_of f - 1) p ≡ None
  pub body : b ≡ packet_body f structure p

told : (f : Format) (p : List ℕ) (b : Body) → judge_of f p ≡ Whole b → Told f p b
told f p b =
    of_every f p (λ v. v ≡ Whole b → Told f p b)
    (λ e. absurd (cc)) (λ d e. absurd (cc)) (λ e. absurd (cc)) (λ e. absurd (cc))
    (λ t long known third e. record { structure = t; long = long; known = known; third = third; body = cc })

sync_right : (b : Bool) (d : Defect) → decided (cond b Wait (Fault d)) ≡ false → b ≡ true
sync_right true d e = refl
sync_right false d e = cc

checked : (f : Format) (p : List ℕ) (b : Body) → Open (judge_of f) p (length p - 1) → (w : Told f p b) → Checked f w.structure p
checked f p b o w =
    let above = longest_above f in
    record {
      long = w.long;
      sync = eqb-true _ _ (sync_right (eqb (get_or p 0 0) 231) _ (sym (ap decided (front_1 f p w.long)) ∙ o 1 (omega arith) (omega arith)));
      known = w.known;
      first = sym (front_23 f p w.long w.structure w.known) ∙ o 23 (omega arith) (omega arith);
      second = sym (front_62 f p w.long w.structure w.known) ∙ o 62 (omega arith) (omega arith);
      third = w.third;
    }

-- The other way: a packet that passes the checks is whole, and its fronts are open.
open_at : (f : Format) (t : Structure) (p : List ℕ) → Checked f t p → Open (judge_of f) p (longest_of f - 1)
open_at f t p c i lo hi =
    let above = longest_above f in
    let at : ℕ → Bool = λ k. decided (judge_of f (take k p)) in
    let size : length (take i p) ≡ i = length-take-le i p (omega (arith, c.long)) in
    ⊎_elim (λ (e : i ≡ 1). ap at e ∙ ap decided (front_1 f p c.long) ∙ ap (λ b. decided (sync_verdict b)) c.sync)
    (λ (n1 : i ≡ 1 → ⊥).
    ⊎_elim (λ (e : i ≡ 22). ap at e ∙ ap decided (front_22 f p (omega (arith, c.long))) ∙ ap (λ o. decided (status_verdict o (get_or p 21 0))) c.known)
    (λ (n22 : i ≡ 22 → ⊥).
    ⊎_elim (λ (e : i ≡ 23). ap at e ∙ front_23 f p c.long t c.known ∙ c.first)
    (λ (n23 : i ≡ 23 → ⊥).
    ⊎_elim (λ (e : i ≡ 62). ap at e ∙ front_62 f p c.long t c.known ∙ c.second)
    (λ (n62 : i ≡ 62 → ⊥).
    ap decided (at_others f (take i p) (λ e. n1 (sym size ∙ e)) (λ e. n22 (sym size ∙ e)) (λ e. n23 (sym size ∙ e)) (λ e. n62 (sym size ∙ e)) (omega arith)))
    (cases_eq i 62))
    (cases_eq i 23))
    (cases_eq i 22))
    (cases_eq i 1)

whole : (f : Format) (t : Structure) (p : List ℕ) → Checked f t p → judge_of f p ≡ Whole (packet_body f t p)
whole f t p c =
    at_longest f p c.long ∙ ap (λ o. packet_verdict f o p) c.known ∙ ap (λ d. unless d (Whole (packet_body f t p))) c.third

-- The checks, structure by structure, are those of the manuals.
chosen_a : (a e : Bool) → cond a (Some StructureA) (cond e (Some StructureB) None) ≡ Some StructureA → a ≡ true
chosen_a true e q = refl
chosen_a false true q = cc
chosen_a false false q = cc

chosen_b : (a e : Bool) → cond a (Some StructureA) (cond e (Some StructureB) None) ≡ Some StructureB → e ≡ true
chosen_b true e q = cc
chosen_b false true q = refl
chosen_b false false q = cc

from_a : (f : Format) (p : List ℕ) → Checked f StructureA p → StructureAPacket f p
from_a f p c =
    record {
      long = c.long;
      sync = c.sync;
      status = chosen_a (is_structure_a (get_or p 21 0)) (eqb (get_or p 21 0) 11) c.known;
      checksum_1 = right_sum InertialSum 22 p c.first;
      checksum_2 = right_sum SolutionSum 61 p c.second;
      checksum_3 = right_sum PacketSum (longest_of f - 1) p (ap wrong c.third);
    }

to_a : (f : Format) (p : List ℕ) → StructureAPacket f p → Checked f StructureA p
to_a f p a =
    record {
      long = a.long;
      sync = a.sync;
      known = cond-true _ _ _ a.status;
      first = ap wrong (sum_right InertialSum 22 p a.checksum_1);
      second = ap wrong (sum_right SolutionSum 61 p a.checksum_2);
      third = sum_right PacketSum (longest_of f - 1) p a.checksum_3;
    }

from_b : (f : Format) (p : List ℕ) → Checked f StructureB p → StructureBPacket f p
from_b f p c =
    record {
      long = c.long;
      sync = c.sync;
      status = eqb-true _ _ (chosen_b (is_structure_a (get_or p 21 0)) (eqb (get_or p 21 0) 11) c.known);
      checksum = right_sum PacketSum (longest_of f - 1) p (ap wrong c.third);
    }

to_b : (f : Format) (p : List ℕ) → StructureBPacket f p → Checked f StructureB p
to_b f p b =
    record {
      long = b.long;
      sync = b.sync;
      known = ap structure_of b.status;
      first = refl;
      second = refl;
      third = sum_right PacketSum (longest_of f - 1) p b.checksum;
    }

by_structure : (f : Format) (t : Structure) (p : List ℕ) (b : Body) → Checked f t p → b ≡ packet_body f t p →
    (StructureAPacket f p × (b ≡ status_body f p)) ⊎ (StructureBPacket f p × (b ≡ passed_body p))
by_structure f StructureA p b c e = inl (from_a f p c, e)
by_structure f StructureB p b c e = inr (from_b f p c, e)

begins : {R : Type 0} (f : Format) (first : R) (absorb : R → List ℕ → R) (rest : List ℕ) (n : ℕ) (b : Body) → Accepts (oxts_model f first absorb) rest n b → Begins f rest n b
begins f first absorb rest n b a =
    let p : List ℕ = take n rest in
    let size : length p ≡ n = length-take-le n rest a.within in
    let fronts : Open (judge_of f) p (length p - 1) = λ i lo hi. ap (λ xs. decided (judge_of f xs)) (take-take i n rest (omega arith)) ∙ a.before i lo (omega arith) in
    let w = told f p b a.here in
    record {
      long = sym size ∙ w.long;
      within = a.within;
      packet = by_structure f w.structure p b (checked f p b fronts w) w.body;
    }

accepts : {R : Type 0} (f : Format) (first : R) (absorb : R → List ℕ → R) (t : Structure) (rest : List ℕ) (n : ℕ) (b : Body) →
    n ≡ longest_of f → n ≤ length rest → Checked f t (take n rest) → b ≡ packet_body f t (take n rest) → Accepts (oxts_model f first absorb) rest n b
accepts f first absorb t rest n b long within c e =
    let above = longest_above f in
    record {
      some = omega arith;
      within = within;
      before = λ i lo hi. sym (ap (λ xs. decided (judge_of f xs)) (take-take i n rest (omega arith))) ∙ open_at f t (take n rest) c i lo (omega arith);
      here = whole f t (take n rest) c ∙ ap Whole (sym e);
    }

pub accepts_packets : (R : Type 0) → AcceptsPackets R
accepts_packets R =
    record {
      only = begins;
      all =
          λ f first absorb rest n b s.
          ⊎_elim
          (λ (a : StructureAPacket f (take n rest) × (b ≡ status_body f (take n rest))). accepts f first absorb StructureA rest n b s.long s.within (to_a f (take n rest) a.0) a.1)
          (λ (a : StructureBPacket f (take n rest) × (b ≡ passed_body (take n rest))). accepts f first absorb StructureB rest n b s.long s.within (to_b f (take n rest) a.0) a.1)
          s.packet;
    }
