-- Lists of messages in rising number.
use Rattle.std.proofs.Common.{◌≡◌, ℕ, zero, suc, ◌+◌, ◌<◌, ◌≤◌, Bool, true, false, cond, not, List, [], ◌∷◌, ◌++◌, length, ltb, get_or, drop, filter, refl, ap, ◌∙◌, append-nil, arith}
use Rattle.std.specs.List.{All}
use Rattle.std.proofs.lemmas.List.Elements.{All-nil, All-cons, All-head, All-tail, All-filter, filter-append}
use Rattle.std.proofs.lemmas.Bool.{le-ltb, lt-ltb}
use Rattle.reading.specs.declared.message.Message.{Message}
use Rattle.law.specs.Laws.{Rises, among, without, ahead}

abbrev pub Above : ℕ → List Message → Type 0
Above n ms = All (λ x. n < x.number) ms

abbrev pub Below : ℕ → List Message → Type 0
Below n ms = All (λ x. x.number < n) ms

pub among_none : (n : ℕ) (ms : List Message) → All (λ x. x.number ≡ n → ⊥) ms → among n ms ≡ false
among_none n [] none = refl
among_none n (m ∷ ms) none = grind (arith, none 0 m (omega arith), among_none n ms (λ k d l. none (suc k) d (omega arith)))

pub among_above : (n : ℕ) (ms : List Message) → Above n ms → among n ms ≡ false
among_above n ms above = among_none n ms (λ k d l e. let far = above k d l in omega arith)

pub among_below : (n : ℕ) (ms : List Message) → Below n ms → among n ms ≡ false
among_below n ms below = among_none n ms (λ k d l e. let far = below k d l in omega arith)

pub among_append : (n : ℕ) (xs ys : List Message) → among n (xs ++ ys) ≡ cond (among n xs) true (among n ys)
among_append n [] ys = refl
among_append n (x ∷ xs) ys = grind (arith, among_append n xs ys)

pub among_head : (m : Message) (ms : List Message) → among m.number (m ∷ ms) ≡ true
among_head m ms = grind arith

pub among_later : (n : ℕ) (m : Message) (ms : List Message) → among n ms ≡ true → among n (m ∷ ms) ≡ true
among_later n m ms e = grind (arith, e)

pub among_itself : (ms : List Message) → All (λ m. among m.number ms ≡ true) ms
among_itself [] = All-nil _
among_itself (m ∷ ms) = All-cons (λ x. among x.number (m ∷ ms) ≡ true) m ms (among_head m ms) (λ k d l. among_later (get_or ms k d).number m ms (among_itself ms k d l))

pub kept_all : (t : Message → Bool) (ms : List Message) → All (λ m. t m ≡ true) ms → filter t ms ≡ ms
kept_all t [] all = refl
kept_all t (m ∷ ms) all = rw (all 0 m (omega arith)) (ap (λ xs. m ∷ xs) (kept_all t ms (λ k d l. all (suc k) d (omega arith))))

pub kept_none : (t : Message → Bool) (ms : List Message) → All (λ m. t m ≡ false) ms → filter t ms ≡ []
kept_none t [] all = refl
kept_none t (m ∷ ms) all = rw (all 0 m (omega arith)) (kept_none t ms (λ k d l. all (suc k) d (omega arith)))

pub without_none : (ms out : List Message) → All (λ m. among m.number out ≡ false) ms → without ms out ≡ ms
without_none ms out all = kept_all _ ms (λ k d l. ap not (all k d l))

pub without_all : (ms out : List Message) → All (λ m. among m.number out ≡ true) ms → without ms out ≡ []
without_all ms out all = kept_none _ ms (λ k d l. ap not (all k d l))

-- parts of a rising list
pub record Parted (xs ys : List Message) : Type 0 where
  pub front : Rises xs
  pub back : Rises ys
  pub over : All (λ x. Above x.number ys) xs
  pub under : All (λ y. Below y.number xs) ys

pub all_parts : (P : Message → Type 0) (xs ys : List Message) → All P (xs ++ ys) → All P xs × All P ys
all_parts P [] ys all = (All-nil P, all)
all_parts P (x ∷ xs) ys all = let rest = all_parts P xs ys (All-tail P x (xs ++ ys) all) in (All-cons P x xs (All-head P x (xs ++ ys) all) rest.0, rest.1)

pub parted : (xs ys : List Message) → Rises (xs ++ ys) → Parted xs ys
parted [] ys r = record { front = tt; back = r; over = All-nil _; under = λ k d l. All-nil _ }
parted (x ∷ xs) ys r =
    let rest = parted xs ys r.1 in
    let both = all_parts (λ y. x.number < y.number) xs ys r.0 in
    record {
      front = (both.0, rest.front);
      back = rest.back;
      over = All-cons (λ z. Above z.number ys) x xs both.1 rest.over;
      under = λ k d l. All-cons (λ z. z.number < (get_or ys k d).number) x xs (both.1 k d l) (rest.under k d l);
    }

pub rises_kept : (t : Message → Bool) (ms : List Message) → Rises ms → Rises (filter t ms)
rises_kept t [] r = tt
rises_kept t (m ∷ ms) r = grind (arith, All-filter t (λ x. m.number < x.number) ms r.0, rises_kept t ms r.1)

pub rises_drop : (n : ℕ) (ms : List Message) → Rises ms → Rises (drop n ms)
rises_drop zero ms r = r
rises_drop (suc n) [] r = tt
rises_drop (suc n) (m ∷ ms) r = rises_drop n ms r.1

-- two messages of a rising list with one number are one
pub rises_same : (ms : List Message) → Rises ms → All (λ m. All (λ x. x.number ≡ m.number → x ≡ m) ms) ms
rises_same [] r = All-nil _
rises_same (m ∷ ms) r = All-cons (λ y. All (λ x. x.number ≡ y.number → x ≡ y) (m ∷ ms)) m ms
    (All-cons (λ x. x.number ≡ m.number → x ≡ m) m ms (λ _. refl) (λ k d l e. let above = r.0 k d l in absurd (let z : ⊥ = omega arith in z)))
    (λ k d l. All-cons (λ x. x.number ≡ (get_or ms k d).number → x ≡ get_or ms k d) m ms
    (λ e. let above = r.0 k d l in absurd (let z : ⊥ = omega arith in z)) (rises_same ms r.1 k d l))

-- numbers that count up
pub rises_counted : (base : ℕ) (ms : List Message) → ((k : ℕ) (d : Message) → k < length ms → (get_or ms k d).number ≡ base + k) → Rises ms × All (λ m. base ≤ m.number) ms
rises_counted base [] at = (tt, All-nil _)
rises_counted base (m ∷ ms) at =
    let head : m.number ≡ base + 0 = at 0 m (omega arith) in
    let rest = rises_counted (base + 1) ms (λ k d l. let e = at (suc k) d (omega arith) in e ∙ omega arith) in (
      (λ k d l. let above = rest.1 k d l in omega arith, rest.0),
      All-cons (λ x. base ≤ x.number) m ms (omega arith) (λ k d l. let above = rest.1 k d l in omega arith),
    )

-- without its own front
pub without_front : (gs ws : List Message) → Rises (gs ++ ws) → without (gs ++ ws) gs ≡ ws
without_front gs ws r =
    let parts = parted gs ws r in
    filter-append _ gs ws
    ∙ ap (λ xs. xs ++ without ws gs) (without_all gs gs (among_itself gs))
    ∙ without_none ws gs (λ k d l. among_below (get_or ws k d).number gs (parts.under k d l))

pub ahead_front : (past : List Message) (m : Message) (rest : List Message) → Rises (past ++ m ∷ rest) → ahead m (past ++ m ∷ rest) ≡ past
ahead_front past m rest r =
    let parts = parted past (m ∷ rest) r in
    let lower : Message → Bool = λ x. ltb x.number m.number in
    filter-append lower past (m ∷ rest)
    ∙ ap (λ xs. xs ++ ahead m (m ∷ rest)) (kept_all lower past (λ k d l. lt-ltb _ _ (parts.under 0 m (omega arith) k d l)))
    ∙ ap (λ xs. past ++ xs) (kept_none lower (m ∷ rest) (All-cons (λ x. lower x ≡ false) m rest (le-ltb m.number m.number (omega arith)) (λ k d l. let above = parts.back.0 k d l in le-ltb (get_or rest k d).number m.number (omega arith))))
    ∙ append-nil past
