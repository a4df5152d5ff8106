-- What is left of a byte string, step after step.
use Rattle.std.proofs.Common.{◌≡◌, ℕ, ◌+◌, ◌-◌, ◌≤◌, List, length, drop, sym, refl, ap, ◌∙◌, arith, length-drop}
use Rattle.std.specs.List.{between}
use Rattle.std.proofs.lemmas.List.{drop-drop}
use Rattle.std.proofs.lemmas.Slice.{between_to_end}
use Rattle.reader.specs.declared.ledger.Ledger.{Ledger}
use Rattle.reading.specs.Reading.{Model}
use Rattle.reader.specs.Progress.{LeftOf, PassedOver}

pub left_all : (bs : List ℕ) → LeftOf bs bs
left_all bs = record { before = 0; within = omega arith; behind = refl }

pub left_both : {bs rest rest' : List ℕ} → LeftOf bs rest → LeftOf rest rest' → LeftOf bs rest'
left_both {bs = bs} a b =
    let size = ap length a.behind ∙ length-drop a.before bs in
    record {
      before = a.before + b.before;
      within = omega (arith, a.within, b.within);
      behind = b.behind ∙ ap (λ x. drop b.before x) a.behind ∙ drop-drop b.before a.before bs;
    }

pub passed_from : {R : Type 0} {m : Model R} {l l' : Ledger R} {rest : List ℕ} (bs : List ℕ) (k : ℕ) → PassedOver m l (between k (length bs) bs) l' rest → PassedOver m l (drop k bs) l' rest
passed_from bs k p = rw (between_to_end bs k (length bs) (omega arith)) at p

-- behind k bytes, and those that are passed over there
pub left_behind : {R : Type 0} {m : Model R} {l l' : Ledger R} {rest : List ℕ} (bs : List ℕ) (k : ℕ) → k ≤ length bs → PassedOver m l (drop k bs) l' rest → LeftOf bs rest
left_behind bs k within p =
    left_both (record { before = k; within = within; behind = refl }) (record { before = p.many; within = p.within; behind = p.behind })

-- what is left is where its length says
pub left_at : {bs rest : List ℕ} → LeftOf bs rest → drop (length bs - length rest) bs ≡ rest
left_at {bs = bs} {rest = rest} a =
    let size = ap length a.behind ∙ length-drop a.before bs in
    let at : length bs - length rest ≡ a.before = omega (arith, a.within) in
    ap (λ n. drop n bs) at ∙ sym a.behind
