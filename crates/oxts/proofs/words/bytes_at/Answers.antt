use Rattle.std.proofs.Common.{◌≡◌, ℕ, zero, suc, ◌+◌, ◌-◌, ◌^◌, ◌<◌, ◌≤◌, min, List, length, get_or, take, drop, map, slice_index, sym, ◌∙◌, add-one, arith, rules}
use Rattle.std.proofs.Math.Seq.{drop-cons}
use Rattle.std.proofs.lemmas.List.{drop_all, get_or-drop, get_or-take, get_or_default, get_or_past, places, same_lists}
use Rattle.std.proofs.lemmas.List.FromFn.{get_or-map-range_with_len, length-map-range_with_len}
use Rattle.std.specs.Array.{IsFromFnResultFrom}
use Rattle.std.specs.Fn.{Called, Mut}
use Rattle.std.specs.List.{range_with_len}
use Rattle.oxts.proofs.words.bytes_at.Goals as goal

-- a place cut off at the largest number is past the end, as it was before
cut : (bs : List ℕ) (n : ℕ) → length bs < 2 ^ 64 → get_or bs (min n (2 ^ 64 - 1)) 0 ≡ get_or bs n 0
cut bs n short = grind (arith, get_or_past)

-- the elements from i on, where a call at each place j gives h j and keeps what K says of the closure
made : {F : Type 0} (g : Mut F (ℕ × Unit {0}) ℕ) (K : F → Type 0) (h : ℕ → ℕ) →
    ((f : F) (j y : ℕ) (f' : F) → K f → Called g f (j, tt) y f' → (y ≡ h j) × K f') →
    (f : F) (ys : List ℕ) (i n : ℕ) → K f → length ys ≡ i + n → IsFromFnResultFrom g f ys i n → drop i ys ≡ map h (range_with_len i n)
made g K h one f ys i zero kept long calls = drop_all i ys (omega arith)
made g K h one f ys i (suc n) kept long (f', y, is, called, calls) =
    let (same, kept') = one f i y f' kept called in
    let more = made g K h one f' ys (i + 1) n kept' (omega arith) calls in
    grind (arith, add-one, drop-cons ys i 0 (omega arith), is.1 0, same, more)

-- the bytes that lie in a list from a place on, one by one
lying : (bs : List ℕ) (at n : ℕ) → at + n ≤ length bs → take n (drop at bs) ≡ map (λ i. slice_index bs (at + i)) (range_with_len 0 n)
lying bs at n h =
    let long : length (take n (drop at bs)) ≡ n = grind (arith, places) in
    let item : ℕ → ℕ = λ i. slice_index bs (at + i) in
    same_lists _ _ (long ∙ sym (length-map-range_with_len item 0 n)) (λ k d lt.
    let kn : k < n = omega (arith, long, lt) in
    get_or-take n (drop at bs) k d kn ∙ get_or-drop at bs k d ∙ get_or_default bs (at + k) d 0 (omega arith) ∙ sym (get_or-map-range_with_len item 0 n k k d kn (omega arith)))

pub returns-in-None : goal.returns-in-None
returns-in-None g c =
    let bs = c.args.bytes.now in
    let at = c.args.at in
    let items = c.from_fn.ensures.items in
    record {
      value =
          made _ (λ f. (f.0.now ≡ bs) × (f.1.now ≡ at)) (λ i. slice_index bs (at + i))
          (λ f i y f' kept called. (grind (arith, cut bs (at + i) (search rules), kept), search rules)) _ c.from_fn.result 0 g.row.N (search rules) (omega (arith, items.long)) items.each;
    }

pub returns-in-Some : goal.returns-in-Some
returns-in-Some g c = record { value = search (rules, lying c.args.bytes.now c.args.at g.row.N) }
