-- How one take makes another, and how several make one.
use Rattle.std.proofs.Common.{◌≡◌, ℕ, zero, suc, ◌+◌, ◌-◌, ◌<◌, ◌≤◌, min, List, [], ◌∷◌, ◌++◌, length, take, drop, sym, refl, ap, ◌∙◌, inl, inr, append_assoc, arith, length-append, length-drop, take-append-drop, length-take, length-take-le, drop-drop, take_at, take-add, drop_at}
use native.Mathlib.Nat.{sub-zero}
use borrow.Rule.Slice.PartMut.{post_of, put_mid}
use Rattle.std.proofs.lemmas.List.{drop-append-le}
use Rattle.std.proofs.lemmas.Bool.{cases_lt}
use Rattle.line.specs.Lines.{Taken, Filled, contents}

-- what a buffer holds whose first m bytes were lent, and came back with t for their first k
front : (buf t : List ℕ) (m k : ℕ) → k ≤ length (take m buf) → (t ++ drop k (take m buf)) ++ drop m buf ≡ t ++ drop k buf
front buf t m k h = simp append_assoc (ap (λ z. t ++ z) (sym (drop-append-le k (take m buf) (drop m buf) h) ∙ ap (drop k) (take-append-drop m buf)))

-- A layer that shows v of the w below, and lends the line below the first m bytes of the buffer: k bytes taken below are k taken
-- from v, if v begins with them.
pub through : (v w buf after w' f : List ℕ) (m k : ℕ) → m ≤ length buf → (0 < length v → 0 < length buf → (0 < m) × (0 < length w)) →
    v ≡ take k w ++ after → Taken w (take (m - 0) buf) k w' f → Taken v buf k after (f ++ post_of 0 (m - 0) buf)
through v w buf after w' f m k l s e t =
    let n : k ≤ min m (length buf) = simp (sub-zero, length-take) at t.fits in
    let kl : length (take k w) ≡ k = length-take-le k w t.waited in
    let lv : length v ≡ length (take k w) + length after = ap length e ∙ length-append (take k w) after in
    let tv : take k v ≡ take k w = ap (take k) e ∙ take_at (take k w) after k kl in
    let dv : drop k v ≡ after = ap (drop k) e ∙ drop_at (take k w) after k kl in
    record {
      waited = omega arith;
      fits = omega arith;
      some = λ x y. t.some (s x y).1 (simp (sub-zero, length-take) (omega (arith, (s x y).0)));
      rest = sym dv;
      moved = ap (λ z. z ++ post_of 0 (m - 0) buf) t.moved ∙ front buf (take k w) (m - 0) k t.fits ∙ ap (λ z. z ++ drop k buf) (sym tv);
    }

-- what a meter shows, with k taken
pub credit_split : (w : List ℕ) (credit k : ℕ) → k ≤ credit → take credit w ≡ take k w ++ take (credit - k) (drop k w)
credit_split w credit k h = let e : k + (credit - k) ≡ credit = omega arith in ap (λ n. take n w) (sym e) ∙ take-add k (credit - k) w

-- what an opener shows, with k of the bytes due taken
pub contents_split : (w : List ℕ) (due k : ℕ) → k ≤ due → k ≤ length w → contents due w ≡ take k w ++ contents (due - k) (drop k w)
contents_split w due zero h l = ap (λ n. contents n w) (sym (sub-zero due))
contents_split [] due (suc k) h l = refl
contents_split (b ∷ w) zero (suc k) h l = absurd (omega arith)
contents_split (b ∷ w) (suc due) (suc k) h l =
    let e : suc due - suc k ≡ due - k = omega arith in
    ap (λ z. b ∷ z) (contents_split w due k (omega arith) (omega arith)) ∙ ap (λ n. b ∷ take k w ++ contents n (drop k w)) (sym e)

-- there is no content but in what waits below
pub contents_short : (w : List ℕ) (due : ℕ) → length (contents due w) ≤ length w
contents_short [] due = omega arith
contents_short (b ∷ w) zero = omega (arith, contents_short w b)
contents_short (b ∷ w) (suc due) = omega (arith, contents_short w due)

-- A fill, one take further: of W and into O as they were at first, d bytes have come.
pub more : (W O w o w' f : List ℕ) (d m k : ℕ) → d ≤ m → m ≤ length O → d ≤ length W → w ≡ drop d W → o ≡ take d W ++ drop d O →
    Taken w (take (m - d) (drop d o)) k w' f →
    (d + k ≤ m) × (d + k ≤ length W) × (w' ≡ drop (d + k) W) × (put_mid d (m - d) o f ≡ take (d + k) W ++ drop (d + k) O)
more W O w o w' f d m k dm mo dw ew eo t =
    let dl : length (take d W) ≡ d = length-take-le d W dw in
    let od : drop d o ≡ drop d O = ap (drop d) eo ∙ drop_at (take d W) (drop d O) d dl in
    let ot : take d o ≡ take d W = ap (take d) eo ∙ take_at (take d W) (drop d O) d dl in
    let n : k ≤ min (m - d) (length (drop d o)) = simp length-take at t.fits in
    let kw : k ≤ length w = t.waited in
    let lw : length w ≡ length W - d = ap length ew ∙ length-drop d W in
    let part : f ++ drop (m - d) (drop d o) ≡ take k w ++ drop k (drop d o) =
    ap (λ z. z ++ drop (m - d) (drop d o)) t.moved ∙ front (drop d o) (take k w) (m - d) k t.fits in
    let whole : put_mid d (m - d) o f ≡ take d W ++ (take k (drop d W) ++ drop k (drop d O)) =
    ap (λ z. take d o ++ z) part ∙ cc in
    let ends : take d W ++ (take k (drop d W) ++ drop k (drop d O)) ≡ take (d + k) W ++ drop (d + k) O =
    simp (take-add, append_assoc, drop-drop) in
    (omega arith, omega arith, t.rest ∙ ap (drop k) ew ∙ drop-drop k d W, whole ∙ ends)

-- a take into a buffer with room that answers 0 says that nothing waits
pub dry : (w b w' f : List ℕ) (k : ℕ) → k ≡ 0 → 0 < length b → Taken w b k w' f → length w ≡ 0
dry w b w' f k e h t = elim (cases_lt 0 (length w)) [ inl p ↦ absurd (omega (arith, t.some p h)) | inr q ↦ omega arith ]

-- a fill that ends since nothing waits any more
pub done : (W O w o w' f : List ℕ) (d m k : ℕ) → m ≡ length O → d < m → d ≤ length W → w ≡ drop d W → o ≡ take d W ++ drop d O →
    k ≡ 0 → Taken w (take (m - d) (drop d o)) k w' f → Filled W O d w' (put_mid d (m - d) o f)
done W O w o w' f d m k em dm dw ew eo ek t =
    let n = more W O w o w' f d m k (omega arith) (omega arith) dw ew eo t in
    let lo : length o ≡ length (take d W) + length (drop d O) = ap length eo ∙ length-append (take d W) (drop d O) in
    let room : 0 < length (take (m - d) (drop d o)) = simp (length-take, length-drop) (omega (arith, lo, length-take-le d W dw, length-drop d O)) in
    let none : length w ≡ 0 = dry w _ w' f k ek room t in
    let lw : length w ≡ length W - d = ap length ew ∙ length-drop d W in
    let e : d + k ≡ d = omega arith in
    record {
      count = omega arith;
      rest = grind (arith, n.2);
      moved = grind (arith, n.3);
    }
