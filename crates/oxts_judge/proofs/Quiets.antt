-- Rows of bytes without a sync byte.
use Rattle.std.proofs.Common.{◌≡◌, ℕ, ◌+◌, ◌-◌, ◌<◌, ◌≤◌, List, ◌++◌, length, get_or, drop, sym, ap, ◌∙◌, ⊎_elim, arith, length-append, length-drop}
use Rattle.std.proofs.lemmas.List.{get_or-drop, get_or_append_left, drop-drop}
use Rattle.std.proofs.Math.Seq.{drop-append_seam}
use Rattle.std.proofs.lemmas.Bool.{cases_lt}
use Rattle.oxts_judge.specs.Models.{NoSync}

-- more bytes behind those that are known
pub none_behind : (bs : List ℕ) (n k : ℕ) → NoSync bs n → NoSync (drop n bs) k → NoSync bs (n + k)
none_behind bs n k q r i l e =
    ⊎_elim (λ (b : i < n). q i b e)
    (λ (b : n ≤ i).
    let within : i - n < k = omega arith in
    let at : n + (i - n) ≡ i = omega arith in
    r (i - n) within (get_or-drop n bs (i - n) 0 ∙ ap (λ z. get_or bs z 0) at ∙ e))
    (cases_lt i n)

-- what is known once a block of k bytes is cut off the front of what was left
pub record Cut (bs left : List ℕ) (n k : ℕ) : Type 0 where
  pub rest : left ≡ drop (n + k) bs
  pub within : n + k ≤ length bs
  pub none : NoSync bs (n + k)

pub cut : (bs block left : List ℕ) (n k : ℕ) → n ≤ length bs → drop n bs ≡ block ++ left → length block ≡ k → NoSync bs n → NoSync block (length block) → Cut bs left n k
cut bs block left n k within e size known clear =
    record {
      rest = sym (drop-append_seam block left) ∙ ap (λ m. drop m (block ++ left)) size ∙ ap (drop k) (sym e) ∙ drop-drop k n bs;
      within = omega (arith, ap length e, length-append block left, length-drop n bs);
      none = none_behind bs n k known (λ i h is. clear i (omega arith) (sym (get_or_append_left block left 0 i (omega arith)) ∙ ap (λ xs. get_or xs i 0) (sym e) ∙ is));
    }
