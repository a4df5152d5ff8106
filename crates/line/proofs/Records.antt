-- How the records in memory are read one by one.
use Rattle.std.proofs.Common.{◌≡◌, ℕ, zero, suc, ◌+◌, ◌*◌, ◌/◌, ◌%◌, ◌<◌, ◌≤◌, List, [], ◌∷◌, ◌++◌, length, slice_index, take, drop, Some, None, Option, sym, refl, ap, ◌∙◌, append_assoc, arith, length-append, take_at, drop_at, Bor, MatchOption}
use Rattle.std.specs.List.{flat_map, IsSplitAt}
use Rattle.std.proofs.lemmas.Bool.{le-leb, lt-leb, cond-true, cond-false}
use Rattle.line.specs.Datagrams.{records, encoded, Cut}

-- skipping bytes is dropping them
pub records_skip : (skip : ℕ) (m : List ℕ) → records skip m ≡ records 0 (drop skip m)
records_skip zero m = refl
records_skip (suc skip) [] = refl
records_skip (suc skip) (b ∷ m) = records_skip skip m

-- the first record, of length n, where it is whole
pub first_whole : (low high n : ℕ) (m : List ℕ) → n ≡ low + high * 256 → n ≤ length m → records 0 (low ∷ high ∷ m) ≡ take n m ∷ records 0 (drop n m)
first_whole low high n m e l =
    cond-true _ _ _ (le-leb (low + high * 256) (length m) (omega arith))
    ∙ ap (λ z. take z m ∷ records z m) (sym e) ∙ ap (λ z. take n m ∷ z) (records_skip n m)

-- the first record, where it is cut short
pub first_cut : (low high n : ℕ) (m : List ℕ) → n ≡ low + high * 256 → length m < n → records 0 (low ∷ high ∷ m) ≡ []
first_cut low high n m e l = cond-false _ _ _ (lt-leb (low + high * 256) (length m) (omega arith))

pub first : (m b R : List ℕ) (n : ℕ) (r : Option (Bor (List ℕ) × Bor (List ℕ))) → (b ≡ take 2 m) × (R ≡ drop 2 m) × (length R + 2 ≡ length m) →
    n ≡ slice_index b 0 + slice_index b 1 * 256 → MatchOption r (length R < n) (λ p. IsSplitAt R n p.0.now p.1.now) →
    MatchOption r (records 0 m ≡ []) (λ p. (records 0 m ≡ p.0.now ∷ records 0 p.1.now) × (length m ≡ 2 + length p.0.now + length p.1.now))
first [] b R n r h e c = absurd (omega (arith, h.2))
first (low ∷ []) b R n r h e c = absurd (omega (arith, h.2))
first (low ∷ high ∷ m) b R n None h e c =
    first_cut low high n m (e ∙ ap (λ z. slice_index z 0 + slice_index z 1 * 256) h.0) (omega (arith, ap length h.1))
first (low ∷ high ∷ m) b R n (Some p) h e c = (
  first_whole low high n m (e ∙ ap (λ z. slice_index z 0 + slice_index z 1 * 256) h.0) (omega (arith, c.0, ap length h.1))
      ∙ ap (λ z. take n z ∷ records 0 (drop n z)) (sym h.1) ∙ ap (λ z. z ∷ records 0 (drop n R)) (sym c.1) ∙ ap (λ z. p.0.now ∷ records 0 z) (sym c.2),
  omega (arith, h.2, c.3, c.4),
)

none_cut : (tail : List ℕ) → Cut tail → records 0 tail ≡ []
none_cut [] h = refl
none_cut (low ∷ []) h = refl
none_cut (low ∷ high ∷ m) h = cond-false _ _ _ (lt-leb (low + high * 256) (length m) h)

pub read_back : (contents : List (List ℕ)) (tail : List ℕ) → Cut tail → records 0 (flat_map encoded contents ++ tail) ≡ contents
read_back [] tail h = none_cut tail h
read_back (c ∷ cs) tail h =
    let after = flat_map encoded cs ++ tail in
    let two : (c ++ flat_map encoded cs) ++ tail ≡ c ++ after = append_assoc c (flat_map encoded cs) tail in
    let n : length c ≡ length c % 256 + length c / 256 * 256 = omega arith in
    ap (λ z. records 0 (length c % 256 ∷ length c / 256 ∷ z)) two
    ∙ first_whole _ _ (length c) (c ++ after) n (omega (arith, length-append c after))
    ∙ simp (take_at, drop_at, read_back cs tail h)
