-- What the walk over the messages that came says of each of them, whatever the port's policy.
use Rattle.std.proofs.Common.{◌≡◌, suc, ◌<◌, Bool, true, false, cond, not, ◌⊎◌, List, [], ◌∷◌, ◌++◌, get_or, filter, sym, refl, ap, ◌∙◌, subst, inl, inr, append_assoc, append-nil, arith}
use Rattle.std.specs.List.{Contains, flat_map, All}
use Rattle.std.proofs.lemmas.List.Elements.{All-nil, All-cons, All-tail, All-push, All-append, All-filter, All-contains, Contains-get_or, Contains-append_left, Contains-append_right, Contains-push, filter_passes, filter-append}
use Rattle.std.proofs.lemmas.Bool.{not-true, true≢false, cases_eq}
use Rattle.reading.specs.declared.message.Message.{Message}
use Rattle.law.specs.Laws.{Rises, Apart, among, without, ahead, waiting_when}
use Rattle.law.proofs.Numbers.{among_none, among_above, among_below, among_append, among_itself, without_none, without_front, parted, ahead_front, rises_kept, all_parts, rises_same}
use Rattle.law.proofs.Walk.{Policy, held_among, missed_among, held_with, missed_with, Along, held_append, held_placed, missed_overflow}

-- A policy loses only what is there, each once, and keeps the rest.
pub record Fair (π : Policy) : Type 0 where
  pub rest : (ws : List Message) (m : Message) → Rises (ws ++ m ∷ []) → π.place ws m ≡ without (ws ++ m ∷ []) (π.lose ws m)
  pub some : (ws : List Message) (m : Message) → All (Contains (ws ++ m ∷ [])) (π.lose ws m)
  pub once : (ws : List Message) (m : Message) → Apart (π.lose ws m)

pub without_twice : (ms xs ys : List Message) → without ms (xs ++ ys) ≡ without (without ms xs) ys
without_twice [] xs ys = refl
without_twice (m ∷ ms) xs ys = grind (arith, among_append m.number xs ys, without_twice ms xs ys)

pub without_nothing : (ms : List Message) → without ms [] ≡ ms
without_nothing [] = refl
without_nothing (m ∷ ms) = ap (λ xs. m ∷ xs) (without_nothing ms)

pub apart_append : (xs ys : List Message) → Apart xs → Apart ys → All (λ x. among x.number ys ≡ false) xs → Apart (xs ++ ys)
apart_append [] ys ax ay none = ay
apart_append (x ∷ xs) ys ax ay none =
    (grind (arith, among_append x.number xs ys, ax.0, none 0 x (omega arith)), apart_append xs ys ax.1 ay (λ k d l. none (suc k) d (omega arith)))

module _ (π : Policy) (fair : Fair π) (F : Message → List Message) where
  -- one message
  record Step (done : List Message) (m : Message) (ms : List Message) : Type 0 where
    lost_in : All (Contains (done ++ m ∷ [])) (missed_with π (F m) done m)
    lost_once : Apart (missed_with π (F m) done m)
    after : held_with π (F m) done m ++ ms ≡ without (done ++ m ∷ ms) (missed_with π (F m) done m)

  step_at : (done ws : List Message) (m : Message) (ms : List Message) → done ≡ F m ++ ws → Rises (done ++ m ∷ ms) → Step done m ms
  step_at done ws m ms split r =
      let gs = F m in
      let lost = missed_with π gs done m in
      let lost-is : lost ≡ π.lose ws m = ap (λ xs. missed_with π gs xs m) split ∙ missed_overflow π gs ws m in
      let r-end : Rises ((done ++ m ∷ []) ++ ms) = subst Rises (sym (append_assoc done (m ∷ []) ms)) r in
      let ends = parted (done ++ m ∷ []) ms r-end in
      let front-is : done ++ m ∷ [] ≡ gs ++ (ws ++ m ∷ []) = ap (λ xs. xs ++ m ∷ []) split ∙ append_assoc gs ws (m ∷ []) in
      let fronts = parted gs (ws ++ m ∷ []) (subst Rises front-is ends.front) in
      let own = fair.some ws m in
      let inside : All (Contains (done ++ m ∷ [])) (π.lose ws m) =
      subst (λ xs. All (Contains xs) (π.lose ws m)) (sym front-is) (λ k d l. Contains-append_right gs (ws ++ m ∷ []) (get_or (π.lose ws m) k d) (own k d l)) in
      let given-safe : without gs (π.lose ws m) ≡ gs =
      without_none gs (π.lose ws m) (λ k d l. let n = (get_or gs k d).number in
      among_above n (π.lose ws m) (λ j e in'. All-contains (λ z. n < z.number) (ws ++ m ∷ []) (get_or (π.lose ws m) j e) (fronts.over k d l) (own j e in'))) in
      let later-safe : without ms (π.lose ws m) ≡ ms =
      without_none ms (π.lose ws m) (λ k d l. let n = (get_or ms k d).number in
      among_below n (π.lose ws m) (λ j e in'. All-contains (λ z. z.number < n) (done ++ m ∷ []) (get_or (π.lose ws m) j e) (ends.under k d l) (inside j e in'))) in
      let next-is : held_with π gs done m ≡ without (done ++ m ∷ []) (π.lose ws m) =
      grind (arith, split, held_placed π gs ws m, fair.rest ws m fronts.back, given-safe, filter-append (λ x. not (among x.number (π.lose ws m))) gs (ws ++ m ∷ []), front-is) in
      record {
        lost_in = subst (All (Contains (done ++ m ∷ []))) (sym lost-is) inside;
        lost_once = subst Apart (sym lost-is) (fair.once ws m);
        after =
            grind (arith, next-is, later-safe, filter-append (λ x. not (among x.number (π.lose ws m))) (done ++ m ∷ []) ms, append_assoc done (m ∷ []) ms, lost-is);
      }

  step_rises : (done : List Message) (m : Message) (ms : List Message) → Step done m ms → Rises (done ++ m ∷ ms) → Rises (held_with π (F m) done m ++ ms)
  step_rises done m ms step r = subst Rises (sym step.after) (rises_kept _ (done ++ m ∷ ms) r)

  -- what is held is the rest of what came
  pub held_rest : (done ms : List Message) → Rises (done ++ ms) → Along π F done ms → held_among π F done ms ≡ without (done ++ ms) (missed_among π F done ms)
  held_rest done [] r al = sym (append-nil done) ∙ sym (without_nothing (done ++ []))
  held_rest done (m ∷ ms) r al =
      let step = step_at done al.0.0 m ms al.0.1 r in
      let next = held_with π (F m) done m in
      held_rest next ms (step_rises done m ms step r) al.1
      ∙ ap (λ xs. without xs (missed_among π F next ms)) step.after
      ∙ sym (without_twice (done ++ m ∷ ms) (missed_with π (F m) done m) (missed_among π F next ms))

  -- only what came is missed
  pub missed_all : (P : Message → Type 0) (done ms : List Message) → Rises (done ++ ms) → Along π F done ms → All P (done ++ ms) → All P (missed_among π F done ms)
  missed_all P done [] r al all = All-nil P
  missed_all P done (m ∷ ms) r al all =
      let step = step_at done al.0.0 m ms al.0.1 r in
      let next = held_with π (F m) done m in
      All-append P (missed_with π (F m) done m) (missed_among π F next ms)
      (λ k d l. All-contains P (done ++ m ∷ []) _ (first_all (subst (All P) (sym (append_assoc done (m ∷ []) ms)) all)) (step.lost_in k d l))
      (missed_all P next ms (step_rises done m ms step r) al.1 (subst (All P) (sym step.after) (All-filter _ P (done ++ m ∷ ms) all)))
    where
      first_all : All P ((done ++ m ∷ []) ++ ms) → All P (done ++ m ∷ [])
      first_all a = (all_parts P (done ++ m ∷ []) ms a).0

  -- none twice
  pub missed_once : (done ms : List Message) → Rises (done ++ ms) → Along π F done ms → Apart (missed_among π F done ms)
  missed_once done [] r al = tt
  missed_once done (m ∷ ms) r al =
      let step = step_at done al.0.0 m ms al.0.1 r in
      let next = held_with π (F m) done m in
      let lost = missed_with π (F m) done m in
      let later = missed_among π F next ms in
      let r' = step_rises done m ms step r in
      let clear : All (λ y. among y.number lost ≡ false) later =
      missed_all (λ y. among y.number lost ≡ false) next ms r' al.1
      (subst (All (λ y. among y.number lost ≡ false)) (sym step.after)
      (λ k d l. not-true _ (filter_passes (λ y. not (among y.number lost)) (done ++ m ∷ ms) k d l))) in
      apart_append lost later step.lost_once (missed_once next ms r' al.1)
      (λ k d l. among_none (get_or lost k d).number later
      (λ j d' l' e. true≢false (sym (among_itself lost k d l) ∙ ap (λ n. among n lost) (sym e) ∙ clear j d' l')))

  -- what is lost as a message comes
  abbrev pub lost_of : (came : List Message) → Message → List Message
  lost_of came m = missed_with π (F m) (held_among π F [] (ahead m came)) m

  pub lost_joined : (past ms rest : List Message) → Rises (past ++ (ms ++ rest)) → flat_map (lost_of (past ++ (ms ++ rest))) ms ≡ missed_among π F (held_among π F [] past) ms
  lost_joined past [] rest r = refl
  lost_joined past (m ∷ ms) rest r =
      let all = past ++ m ∷ (ms ++ rest) in
      let same : (past ++ m ∷ []) ++ (ms ++ rest) ≡ all = append_assoc past (m ∷ []) (ms ++ rest) in
      let here : lost_of all m ≡ missed_with π (F m) (held_among π F [] past) m = ap (λ xs. missed_with π (F m) (held_among π F [] xs) m) (ahead_front past m (ms ++ rest) r) in
      let tail = lost_joined (past ++ m ∷ []) ms rest (subst Rises (sym same) r) in
      ap (λ xs. xs ++ flat_map (lost_of all) ms) here
      ∙ ap (λ xs. missed_with π (F m) (held_among π F [] past) m ++ xs)
      (ap (λ xs. flat_map (lost_of xs) ms) (sym same) ∙ tail ∙ ap (λ xs. missed_among π F xs ms) (held_append π F [] past (m ∷ [])))

  along_parts : (done xs ys : List Message) → Along π F done (xs ++ ys) → Along π F done xs × Along π F (held_among π F done xs) ys
  along_parts done [] ys al = (tt, al)
  along_parts done (x ∷ xs) ys al = let rest = along_parts (held_with π (F x) done x) xs ys al.1 in ((al.0, rest.0), rest.1)

  abbrev Met : (came : List Message) → Message → Type 0
  Met came m = lost_of came m ≡ π.lose (waiting_when (lost_of came) came (F m) m) m

  met_here : (past : List Message) (m : Message) (ms : List Message) → Rises (past ++ m ∷ ms) → Along π F [] (past ++ m ∷ ms) → Met (past ++ m ∷ ms) m
  met_here past m ms r al =
      let all = past ++ m ∷ ms in
      let als = along_parts [] past (m ∷ ms) al in
      let held = held_among π F [] past in
      let ws = als.1.0.0 in
      let split : held ≡ F m ++ ws = als.1.0.1 in
      let front = (parted past (m ∷ ms) r).front in
      let ahead-is : ahead m all ≡ past = ahead_front past m ms r in
      let held-is : held ≡ without past (missed_among π F [] past) = held_rest [] past front als.0 in
      let held-rises : Rises (F m ++ ws) = subst Rises (sym held-is ∙ split) (rises_kept _ past front) in
      let waits-are : waiting_when (lost_of all) all (F m) m ≡ ws =
      grind (arith, ahead-is, lost_joined [] past (m ∷ ms) r, held-is, split, without_front (F m) ws held-rises) in
      grind (arith, ahead-is, split, missed_overflow π (F m) ws m, waits-are)

  met : (past ms : List Message) → Rises (past ++ ms) → Along π F [] (past ++ ms) → All (Met (past ++ ms)) ms
  met past [] r al = All-nil _
  met past (m ∷ ms) r al =
      let same : (past ++ m ∷ []) ++ ms ≡ past ++ m ∷ ms = append_assoc past (m ∷ []) ms in
      All-cons (Met (past ++ m ∷ ms)) m ms (met_here past m ms r al)
      (subst (λ xs. All (Met xs) ms) same (met (past ++ m ∷ []) ms (subst Rises (sym same) r) (subst (Along π F []) (sym same) al)))

  pub met_all : (came : List Message) → Rises came → Along π F [] came → All (Met came) came
  met_all came r al = met [] came r al

-- Two accounts of what was lost, each by what its messages met, are the same.
module _ (lose : List Message → Message → List Message) (F : Message → List Message) (one two : Message → List Message) where
  abbrev AccountsFor : (Message → List Message) → (came : List Message) → Message → Type 0
  AccountsFor lost came m = lost m ≡ lose (waiting_when lost came (F m) m) m

  joined_same : (ms : List Message) → All (λ m. one m ≡ two m) ms → flat_map one ms ≡ flat_map two ms
  joined_same [] same = refl
  joined_same (m ∷ ms) same = grind (arith, same 0 m (omega arith), joined_same ms (λ k d l. same (suc k) d (omega arith)))

  unique_from : (past ms : List Message) → Rises (past ++ ms) → All (λ m. one m ≡ two m) past
      → All (AccountsFor one (past ++ ms)) ms → All (AccountsFor two (past ++ ms)) ms → All (λ m. one m ≡ two m) ms
  unique_from past [] r same a b = All-nil _
  unique_from past (m ∷ ms) r same a b =
      let all = past ++ m ∷ ms in
      let assoc : (past ++ m ∷ []) ++ ms ≡ all = append_assoc past (m ∷ []) ms in
      let waits : waiting_when one all (F m) m ≡ waiting_when two all (F m) m =
      grind (arith, ahead_front past m ms r, joined_same past same) in
      let here : one m ≡ two m = a 0 m (omega arith) ∙ ap (λ ws. lose ws m) waits ∙ sym (b 0 m (omega arith)) in
      let later : (lost : Message → List Message) → All (AccountsFor lost all) (m ∷ ms) → All (AccountsFor lost ((past ++ m ∷ []) ++ ms)) ms =
      λ lost met. subst (λ xs. All (AccountsFor lost xs) ms) (sym assoc) (All-tail (AccountsFor lost all) m ms met) in
      All-cons (λ x. one x ≡ two x) m ms here
      (unique_from (past ++ m ∷ []) ms (subst Rises (sym assoc) r) (All-push (λ x. one x ≡ two x) past m same here) (later one a) (later two b))

  pub lost_unique : (came : List Message) → Rises came → All (AccountsFor one came) came → All (AccountsFor two came) came → All (λ m. one m ≡ two m) came
  lost_unique came r a b = unique_from [] came r (All-nil _) a b

-- What came and is not among the lost is among the kept; what is lost stands among the lost.
all_kept : (P : Message → Type 0) (t : Message → Bool) (ms : List Message) → All P (filter t ms) → All (λ m. t m ≡ true → P m) ms
all_kept P t [] all = All-nil _
all_kept P t (m ∷ ms) all = let both = by (all_kept P t ms) (t m) all in All-cons (λ x. t x ≡ true → P x) m ms both.0 both.1
  where
    by : (All P (filter t ms) → All (λ x. t x ≡ true → P x) ms) → (b : Bool) → All P (cond b (m ∷ filter t ms) (filter t ms)) → (b ≡ true → P m) × All (λ x. t x ≡ true → P x) ms
    by rest true all = (λ _. all 0 m (omega arith), rest (λ k d l. all (suc k) d (omega arith)))
    by rest false all = (λ e. absurd (true≢false (sym e)), rest all)

has_among : (m : Message) (ms : List Message) → All (λ x. x.number ≡ m.number → x ≡ m) ms → among m.number ms ≡ true → Contains ms m
has_among m [] same e = absurd (true≢false (sym e))
has_among m (x ∷ ms) same e = by (has_among m ms (λ k d l. same (suc k) d (omega arith))) (cases_eq x.number m.number)
  where
    by : (among m.number ms ≡ true → Contains ms m) → (x.number ≡ m.number) ⊎ (x.number ≡ m.number → ⊥) → Contains (x ∷ ms) m
    by rest (inl is) = subst (Contains (x ∷ ms)) (same 0 x (omega arith) is) (Contains-append_left (x ∷ []) ms x (Contains-push [] x))
    by rest (inr ne) = Contains-append_right (x ∷ []) ms m (rest (grind (arith, ne, e)))

module _ (came missed given waiting : List Message) where
  abbrev Fate : Message → Type 0
  Fate m = Contains given m ⊎ (Contains missed m ⊎ Contains waiting m)

  pub fates : Rises came → All (Contains came) missed → without came missed ≡ given ++ waiting → All Fate came
  fates r only rest k d l =
      by (get_or came k d) (among (get_or came k d).number missed) refl (all_kept Fate (λ m. not (among m.number missed)) came kept k d l) (rises_same came r k d l)
    where
      kept : All Fate (without came missed)
      kept = subst (All Fate) (sym rest)
          (All-append Fate given waiting (λ k d l. inl (Contains-get_or given k d l)) (λ k d l. inr (inr (Contains-get_or waiting k d l))))

      by : (m : Message) (b : Bool) → among m.number missed ≡ b → (not (among m.number missed) ≡ true → Fate m) → All (λ x. x.number ≡ m.number → x ≡ m) came → Fate m
      by m true e left same = inr (inl (has_among m missed (λ k d l. All-contains (λ y. y.number ≡ m.number → y ≡ m) came (get_or missed k d) same (only k d l)) e))
      by m false e left same = left (ap not e)
