-- Single bits of numbers, and how many of them are ones. Assumes nothing.
use Rattle.std.proofs.Common.{◌≡◌, ℕ, zero, suc, ◌+◌, ◌*◌, ◌/◌, ◌%◌, ◌^◌, ◌<◌, Bool, cond, ◌||◌, eqb, List, ◌++◌, length, get_or, set, sum_by, count_by, sym, refl, ap, ◌∙◌, ⊎_elim, add-zero, add-one, arith}
use lib.Bits.{bit_or}
use lib.Count.{ones, ones_step, ones-le}
use Rattle.std.specs.Int.{bit_at}
use Rattle.std.specs.List.{range_with_len}
use Rattle.std.proofs.lemmas.Nat.{shr_below}
use Rattle.std.proofs.lemmas.Nat.Bits.{bit_at_lowest, bit_at-suc, bit_at_or, bit_at-pow_same, bit_at-pow_other}
use Rattle.std.proofs.lemmas.List.{get_or-set_same, get_or-set_other}
use Rattle.std.proofs.lemmas.List.Sums.{sum_by-cons, sum_by-append}
use Rattle.std.proofs.lemmas.Bool.{cases_eq}
use Rattle.std.proofs.lemmas.Bool.Decides.{nat_tests}
use Rattle.oxts_record.specs.ChannelSets.{has_in, has, members}
use Rattle.oxts_record.specs.declared.channel_set.ChannelSet.{ChannelSet}

-- where the test p at a + k is the bit k of n, as many pass as n has ones
pub ones_count : (d a n : ℕ) (p : ℕ → Bool) → ((k : ℕ) → k < d → p (a + k) ≡ eqb (bit_at n k) 1) → n < 2 ^ d → count_by p (range_with_len a d) ≡ ones n
ones_count zero a n p reads h = omega (arith, ones-le 0 n h)
ones_count (suc d) a n p reads h =
    let half : n / 2 < 2 ^ d = shr_below n d 1 (rw add-one h) in
    let low : p a ≡ eqb (n % 2) 1 = sym (ap p (add-zero a)) ∙ reads 0 (omega arith) ∙ ap (λ x. eqb x 1) (bit_at_lowest n) in
    let head : cond (p a) 1 0 ≡ n % 2 = grind (arith, nat_tests) in
    let rest : count_by p (range_with_len (a + 1) d) ≡ ones (n / 2) =
    ones_count d (a + 1) (n / 2) p (λ k kd. ap p (omega arith) ∙ reads (suc k) (omega arith) ∙ ap (λ x. eqb x 1) (bit_at-suc n k)) half in
    sum_by-cons (λ x. cond (p x) 1 0) a (range_with_len (a + 1) d) ∙ omega (arith, head, rest, ones_step n)

-- the members in the 64 places of one word
block : (ws : List ℕ) (i a : ℕ) → a ≡ 64 * i → get_or ws i 0 < 2 ^ 64 → count_by (has_in ws) (range_with_len a 64) ≡ ones (get_or ws i 0)
block ws i a e h =
    ones_count 64 a (get_or ws i 0) (has_in ws)
    (λ k kd. let q : (a + k) / 64 ≡ i = omega arith in let r : (a + k) % 64 ≡ k = omega arith in rw (q, r)) h

four_parts : (f : ℕ → ℕ) (p q r s : List ℕ) (a b c d : ℕ) → sum_by f p ≡ a → sum_by f q ≡ b → sum_by f r ≡ c → sum_by f s ≡ d → sum_by f (p ++ (q ++ (r ++ s))) ≡ a + b + c + d
four_parts f p q r s a b c d ha hb hc hd =
    omega (arith, sum_by-append f p (q ++ (r ++ s)), sum_by-append f q (r ++ s), sum_by-append f r s)

split256 : range_with_len 0 256 ≡ range_with_len 0 64 ++ (range_with_len 64 64 ++ (range_with_len 128 64 ++ range_with_len 192 64))
split256 = refl

pub members_is : (s : ChannelSet) → ((i : ℕ) → get_or s.words i 0 < 2 ^ 64) → members s ≡ ones (get_or s.words 0 0) + ones (get_or s.words 1 0) + ones (get_or s.words 2 0) + ones (get_or s.words 3 0)
unfolding members
members_is s fit =
    ap (count_by (has s)) split256
    ∙ four_parts (λ x. cond (has s x) 1 0) (range_with_len 0 64) (range_with_len 64 64) (range_with_len 128 64) (range_with_len 192 64) _ _ _ _ (block s.words 0 0 refl (fit 0))
    (block s.words 1 64 refl (fit 1)) (block s.words 2 128 refl (fit 2)) (block s.words 3 192 refl (fit 3))

-- one more member
pub has_inserted : (ws : List ℕ) (c k : ℕ) → length ws ≡ 4 → k < 256 → has_in (set ws (c / 64) (bit_or (get_or ws (c / 64) 0) (2 ^ (c % 64)))) k ≡ (eqb k c || has_in ws k)
has_inserted ws c k four hk =
    let w = get_or ws (c / 64) 0 in
    let v = bit_or w (2 ^ (c % 64)) in
    ⊎_elim
    (λ (e : k / 64 ≡ c / 64).
    let here = get_or-set_same ws (c / 64) v 0 (omega arith) in
    let both = bit_at_or w (2 ^ (c % 64)) (k % 64) in
    ⊎_elim
    (λ (f : k % 64 ≡ c % 64).
    let one : bit_at (2 ^ (c % 64)) (k % 64) ≡ 1 = rw f (bit_at-pow_same (c % 64)) in
    rw (e, here, both) (grind (arith, nat_tests)))
    (λ (f : k % 64 ≡ c % 64 → ⊥).
    let none = bit_at-pow_other (c % 64) (k % 64) f in
    rw (e, here, both) (grind (arith, nat_tests)))
    (cases_eq (k % 64) (c % 64)))
    (λ (e : k / 64 ≡ c / 64 → ⊥).
    rw (get_or-set_other ws (c / 64) (k / 64) v 0 e) (grind (arith, nat_tests)))
    (cases_eq (k / 64) (c / 64))
