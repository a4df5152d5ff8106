-- After each call of a run, a port is as the run's history says.
use Rattle.std.proofs.Common.{◌≡◌, ℕ, ◌+◌, ◌<◌, ◌≤◌, Bool, true, false, cond, ltb, ◌⊎◌, List, [], ◌∷◌, ◌++◌, length, get_or, drop, filter, sym, refl, ap, ◌∙◌, subst, inl, inr, append_assoc, append-nil, arith, length-append, length-drop, length-set, get_or-drop, get_or-set_other, get_or-set_same}
use lib.Seq.{drop-append_seam, drop-append-le, drop-length}
use Rattle.std.specs.List.{All}
use Rattle.std.proofs.lemmas.List.Elements.{All-nil, All-drop, All-filter, filter-append}
use Rattle.std.proofs.lemmas.List.{get_or-map, length-map, get_or-replicate}
use Rattle.std.proofs.lemmas.Bool.{cond-true, lt-ltb, cases_eq}
use Rattle.reading.specs.declared.message.Message.{Message}
use Rattle.reading.specs.Reading.{Model}
use Rattle.law.specs.Calls.{Call, Pump, At, PortCall, Open, Take, Missed, Close, Answer, refused, done, gave, told, brought, wants, depth, ports, wantable, pump_answer, Question, Shown, messages_of}
use Rattle.law.specs.Runs.{History, start, called, questioned, pumped, Opening, closed, since, opening_by, given_by, given, came_of, published, opening, came, before, given_at}
use Rattle.law.specs.Slots.{Slot, shut, opened, all_arrived, arrived, published_to, all_published_to, slot_answer, slot_after, port_answer, port_after}
use Rattle.law.specs.States.{State, new_state, answer, after, fresh, Reached, begins, goes, asks}
use Rattle.law.proofs.Follows.{Follows}
use Rattle.law.proofs.Walk.{base, Along, along_same, along_append, along_still, held_among, missed_among, held, missed, held_same, missed_same, held_append, missed_append, come, shut_stays}

-- The row of ports, one port at a time.
pub length_published_to : (slots : List Slot) (ms : List Message) → length (all_published_to slots ms) ≡ length slots
length_published_to slots [] = refl
length_published_to slots (m ∷ ms) = length_published_to (published_to slots m) ms ∙ length-map slots (λ s. arrived s m)

pub get_or_published_to : (slots : List Slot) (ms : List Message) (p : ℕ) → p < length slots → get_or (all_published_to slots ms) p shut ≡ all_arrived (get_or slots p shut) ms
get_or_published_to slots [] p within = refl
get_or_published_to slots (m ∷ ms) p within =
    get_or_published_to (published_to slots m) ms p (rw (length-map slots (λ s. arrived s m)) within)
    ∙ ap (λ s. all_arrived s ms) (get_or-map (λ s. arrived s m) slots p shut shut within)

pub after_own : (slots : List Slot) (p : ℕ) (c : PortCall) → p < ports → length slots ≡ ports → get_or (port_after slots p c) p shut ≡ slot_after (get_or slots p shut) c
after_own slots p c below eight = grind (arith, get_or-set_same slots p (slot_after (get_or slots p shut) c) shut)

pub after_other : (slots : List Slot) (q p : ℕ) (c : PortCall) → (q ≡ p → ⊥) → get_or (port_after slots q c) p shut ≡ get_or slots p shut
after_other slots q p c ne = grind (arith, get_or-set_other slots q p (slot_after (get_or slots q shut) c) shut)

length_after : (slots : List Slot) (q : ℕ) (c : PortCall) → length (port_after slots q c) ≡ length slots
length_after slots q c = grind (arith, length-set)

module _ {R : Type 0} (model : Model R) (follows : Follows model) where
  -- what a pump brings
  pub published_pump : (h : History R) (limit : ℕ) (waits : List ℕ) (a : Answer)
      → published model (called h (Pump limit waits) a) ≡ published model h ++ fresh model (pumped h) (brought waits a)
  published_pump h limit waits a =
      let more = follows.grows (pumped h) (brought waits a) in
      grind (arith, more.1, drop-append_seam (messages_of model (pumped h)) more.0)

  pub old_numbers : (h : History R) → All (λ m. m.number ≤ length (published model h)) (published model h)
  old_numbers h k d within = let e = follows.numbers (pumped h) k d within in omega (arith, e)

  pub new_numbers : (bs more : List ℕ) → All (λ m. length (messages_of model bs) < m.number) (fresh model bs more)
  new_numbers bs more k d in' =
      let n = length (messages_of model bs) in
      let all = messages_of model (bs ++ more) in
      let long = length-drop n all in
      let within : n + k < length all = omega (arith, long) in
      let e : (get_or (drop n all) k d).number ≡ (n + k) + 1 = ap (λ m. m.number) (get_or-drop n all k d) ∙ follows.numbers (bs ++ more) (n + k) d within in
      omega (arith, e)

  pub before_old : (h : History R) (c : Call) (a : Answer) (n : ℕ) → n ≤ length (published model h) → before model n (called h c a) ≡ before model n h
  before_old h c a n old = grind (arith, old)

  pub before_new : (h : History R) (c : Call) (a : Answer) (n : ℕ) → length (published model h) < n → before model n (called h c a) ≡ h
  before_new h c a n late = grind (arith, late)

  came_old : (h : History R) (o : Opening) → All (λ m. m.number ≤ length (published model h)) (came_of o (published model h))
  came_old h closed = All-nil _
  came_old h (since n w) =
      let P : Message → Type 0 = λ m. m.number ≤ length (published model h) in
      All-filter (wants w) P _ (All-drop P n _ (old_numbers h))

  module _ (p : ℕ) where
    given_old : (h : History R) (c : Call) (a : Answer) (o : Opening) → All (λ m. given_at model p (called h c a) m ≡ given_at model p h m) (came_of o (published model h))
    given_old h c a o k d within = ap (given p) (before_old h c a _ (came_old h o k d within))

    pub data Account (h : History R) : Slot → Type 0 where
      is_shut : opening model p h ≡ closed → given p h ≡ [] → Account h shut
      is_open : (n w : ℕ) (ws : List Message) (count : ℕ) → opening model p h ≡ since n w → n ≤ length (published model h)
          → held model p h ≡ given p h ++ ws → count ≡ length (missed model p h)
          → Along base (given_at model p h) [] (came model p h) → length ws ≤ depth → Account h (opened w ws count)

    -- a call that brings no message and leaves the opening as it is
    held_at : (h : History R) (c : Call) (a : Answer) → published model (called h c a) ≡ published model h → opening model p (called h c a) ≡ opening model p h
        → held model p (called h c a) ≡ held model p h
    held_at h c a ps e =
        let F = given_at model p (called h c a) in
        grind (arith, e, ps, held_same base F (given_at model p h) [] (came model p h) (given_old h c a (opening model p h)))

    missed_at : (h : History R) (c : Call) (a : Answer) → published model (called h c a) ≡ published model h → opening model p (called h c a) ≡ opening model p h
        → missed model p (called h c a) ≡ missed model p h
    missed_at h c a ps e =
        let F = given_at model p (called h c a) in
        grind (arith, e, ps, missed_same base F (given_at model p h) [] (came model p h) (given_old h c a (opening model p h)))

    along_at : (h : History R) (c : Call) (a : Answer) → published model (called h c a) ≡ published model h → opening model p (called h c a) ≡ opening model p h
        → Along base (given_at model p h) [] (came model p h) → Along base (given_at model p (called h c a)) [] (came model p (called h c a))
    along_at h c a ps e al =
        let F = given_at model p (called h c a) in
        let came-is : came model p h ≡ came model p (called h c a) =
        ap (λ o. came_of o (published model h)) (sym e) ∙ ap (came_of (opening model p (called h c a))) (sym ps) in
        subst (Along base F []) came-is
        (along_same base F (given_at model p h) [] (came model p h) (given_old h c a (opening model p h)) al)

    -- a call that leaves the port's opening and what it gave as they are
    quiet : (h : History R) (c : Call) (a : Answer) {s : Slot} → published model (called h c a) ≡ published model h
        → opening model p (called h c a) ≡ opening model p h → given p (called h c a) ≡ given p h → Account h s → Account (called h c a) s
    quiet h c a ps same given-same (is_shut o g) = is_shut (same ∙ o) (given-same ∙ g)
    quiet h c a ps same given-same (is_open n w ws count o le eq cnt al rm) =
        is_open n w ws count (same ∙ o) (rw ps le) (held_at h c a ps same ∙ eq ∙ ap (λ gs. gs ++ ws) (sym given-same)) (cnt ∙ ap length (sym (missed_at h c a ps same)))
        (along_at h c a ps same al) rm

    -- a question
    still : (h : History R) (q : Question) (v : Shown R) {s : Slot} → Account h s → Account (questioned h q v) s
    still h q v (is_shut o g) = is_shut o g
    still h q v (is_open n w ws count o le eq cnt al rm) = is_open n w ws count o le eq cnt al rm

    -- a call of the port itself
    opening_own : (h : History R) (c : PortCall) (a : Answer) → opening model p (called h (At p c) a) ≡ opening_by (length (published model h)) (opening model p h) c a
    opening_own h c a = grind arith

    given_own : (h : History R) (c : PortCall) (a : Answer) → given p (called h (At p c) a) ≡ given_by (given p h) c a
    given_own h c a = grind arith

    came_none : (h : History R) (n w : ℕ) → opening model p h ≡ since n w → n ≡ length (published model h) → came model p h ≡ []
    came_none h n w o e =
        grind (arith, o, e, drop-length (published model h))

    opens : (h : History R) (w : ℕ) (b : Bool) → Account h shut → Account (called h (At p (Open w)) (cond b done (refused 6))) (cond b (opened w [] 0) shut)
    opens h w true account =
        let h' = called h (At p (Open w)) done in
        let o = opening_own h (Open w) done in
        let g = given_own h (Open w) done in
        let none = came_none h' (length (published model h)) w o refl in
        is_open (length (published model h)) w [] 0 o (omega arith)
        (ap (held_among base (given_at model p h') []) none ∙ ap (λ gs. gs ++ []) (sym g))
        (sym (ap (λ ms. length (missed_among base (given_at model p h') [] ms)) none))
        (subst (Along base (given_at model p h') []) (sym none) tt) (omega arith)
    opens h w false account = quiet h (At p (Open w)) (refused 6) refl (opening_own h (Open w) (refused 6)) (given_own h (Open w) (refused 6)) account

    gives : (h : History R) {s : Slot} → Account h s → Account (called h (At p Take) (slot_answer s Take)) (slot_after s Take)
    gives h (is_shut o g) = quiet h (At p Take) (refused 7) refl (opening_own h Take (refused 7)) (given_own h Take (refused 7) ∙ append-nil (given p h)) (is_shut o g)
    gives h (is_open n w [] count o le eq cnt al rm) =
        quiet h (At p Take) (refused 8) refl (opening_own h Take (refused 8)) (given_own h Take (refused 8) ∙ append-nil (given p h)) (is_open n w [] count o le eq cnt al rm)
    gives h (is_open n w (m ∷ ws) count o le eq cnt al rm) =
        let same = opening_own h Take (gave m) in
        is_open n w ws count (same ∙ o) le
        (held_at h (At p Take) (gave m) refl same ∙ eq ∙ sym (append_assoc (given p h) (m ∷ []) ws) ∙ ap (λ gs. gs ++ ws) (sym (given_own h Take (gave m))))
        (cnt ∙ ap length (sym (missed_at h (At p Take) (gave m) refl same)))
        (along_at h (At p Take) (gave m) refl same al) (omega arith)

    own : (h : History R) {s : Slot} → Account h s → (c : PortCall) → Account (called h (At p c) (slot_answer s c)) (slot_after s c)
    own h (is_shut o g) (Open w) = opens h w (wantable w) (is_shut o g)
    own h (is_shut o g) Take = gives h (is_shut o g)
    own h (is_shut o g) Missed = quiet h (At p Missed) (refused 7) refl (opening_own h Missed (refused 7)) (given_own h Missed (refused 7)) (is_shut o g)
    own h (is_shut o g) Close = quiet h (At p Close) (refused 7) refl (opening_own h Close (refused 7)) (given_own h Close (refused 7)) (is_shut o g)
    own h (is_open n w ws count o le eq cnt al rm) (Open x) =
        quiet h (At p (Open x)) (refused 5) refl (opening_own h (Open x) (refused 5)) (given_own h (Open x) (refused 5)) (is_open n w ws count o le eq cnt al rm)
    own h (is_open n w ws count o le eq cnt al rm) Take = gives h (is_open n w ws count o le eq cnt al rm)
    own h (is_open n w ws count o le eq cnt al rm) Missed =
        quiet h (At p Missed) (told count) refl (opening_own h Missed (told count)) (given_own h Missed (told count)) (is_open n w ws count o le eq cnt al rm)
    own h (is_open n w ws count o le eq cnt al rm) Close =
        is_shut (opening_own h Close (told (length ws))) (given_own h Close (told (length ws)))

    -- a call of another port
    other : (h : History R) {s : Slot} (q : ℕ) (c : PortCall) (a : Answer) → (q ≡ p → ⊥) → Account h s → Account (called h (At q c) a) s
    other h q c a ne account = quiet h (At q c) a refl (grind (arith, ne)) (grind (arith, ne)) account

    -- a pump
    pumps : (h : History R) {s : Slot} (limit : ℕ) (waits : List ℕ) (a : Answer) → Account h s
        → Account (called h (Pump limit waits) a) (all_arrived s (fresh model (pumped h) (brought waits a)))
    pumps h limit waits a (is_shut o g) =
        subst (Account (called h (Pump limit waits) a)) (sym (shut_stays (fresh model (pumped h) (brought waits a)))) (is_shut o g)
    pumps h limit waits a (is_open n w ws count o le eq cnt al rm) =
        let h' = called h (Pump limit waits) a in
        let news = fresh model (pumped h) (brought waits a) in
        let F = given_at model p h' in
        let pub-is = published_pump h limit waits a in
        let late : All (λ m. F m ≡ given p h) news =
        λ k d within. ap (given p) (before_new h (Pump limit waits) a _ (new_numbers (pumped h) (brought waits a) k d within)) in
        let r = come F w (given p h) ws count news late in
        let old : List Message = came model p h in
        let old-is : old ≡ filter (wants w) (drop n (published model h)) = ap (λ x. came_of x (published model h)) o in
        let came-is : came model p h' ≡ old ++ filter (wants w) news =
        grind (arith, o, pub-is, drop-append-le n (published model h) news le, filter-append (wants w) (drop n (published model h)) news, old-is) in
        let same = given_old h (Pump limit waits) a (opening model p h) in
        let held-old : held_among base F [] old ≡ given p h ++ ws = held_same base F (given_at model p h) [] old same ∙ eq in
        let missed-old : missed_among base F [] old ≡ missed model p h = missed_same base F (given_at model p h) [] old same in
        let held_new : held model p h' ≡ given p h ++ r.waits =
        grind (arith, came-is, held_append base F [] old (filter (wants w) news), held-old, r.held) in
        let missed-new : missed model p h' ≡ missed model p h ++ missed_among base F (given p h ++ ws) (filter (wants w) news) =
        grind (arith, came-is, missed_append base F [] old (filter (wants w) news), held-old, missed-old) in
        subst (Account h') (sym r.slot)
        (is_open n w r.waits r.misses o (rw pub-is (rw length-append (omega arith))) held_new
        (grind (arith, r.missed, cnt, length-append, missed-new))
        (subst (Along base F []) (sym came-is)
        (along_append base F [] old (filter (wants w) news) (along_same base F (given_at model p h) [] old same al)
        (subst (λ x. Along base F x (filter (wants w) news)) (sym held-old) (along_still base F (given p h) ws _ (All-filter (wants w) (λ m. F m ≡ given p h) news late)))))
        (r.room rm))

  -- A gateway and the history of its run.
  pub record Agrees (g : State) (h : History R) : Type 0 where
    pub bytes_are : g.bytes ≡ pumped h
    pub eight : length g.slots ≡ ports
    pub accounts : (p : ℕ) → p < ports → Account p h (get_or g.slots p shut)

  pub agrees_start : Agrees new_state start
  agrees_start = record {
    bytes_are = refl;
    eight = refl;
    accounts = λ p below. subst (Account p start) (sym (get_or-replicate ports p shut shut below)) (is_shut refl refl);
  }

  agrees_pump : (g : State) (h : History R) (limit : ℕ) (waits : List ℕ) → Agrees g h → Agrees (after model g (Pump limit waits)) (called h (Pump limit waits) (answer model g (Pump limit waits)))
  agrees_pump g h limit waits before =
      let a = pump_answer (length g.bytes) limit waits in
      let news = fresh model g.bytes (brought waits a) in
      record {
        bytes_are = ap (λ bs. bs ++ brought waits a) before.bytes_are;
        eight = length_published_to g.slots news ∙ before.eight;
        accounts = λ p below.
            subst (Account p (called h (Pump limit waits) a))
            (ap (λ bs. all_arrived (get_or g.slots p shut) (fresh model bs (brought waits a))) (sym before.bytes_are)
            ∙ sym (get_or_published_to g.slots news p (rw before.eight below)))
            (pumps p h limit waits a (before.accounts p below));
      }

  agrees_at : (g : State) (h : History R) (q : ℕ) (c : PortCall) → Agrees g h → Agrees (after model g (At q c)) (called h (At q c) (answer model g (At q c)))
  agrees_at g h q c before = record {
    bytes_are = before.bytes_are;
    eight = length_after g.slots q c ∙ before.eight;
    accounts = λ p below. at p below (cases_eq q p);
  }
    where
      at : (p : ℕ) → p < ports → (q ≡ p) ⊎ (q ≡ p → ⊥) → Account p (called h (At q c) (port_answer g.slots q c)) (get_or (port_after g.slots q c) p shut)
      at p below (inl e) =
          let s = get_or g.slots p shut in
          let answer-is : slot_answer s c ≡ port_answer g.slots p c = sym (cond-true (ltb p ports) (slot_answer s c) (refused 4) (lt-ltb p ports below)) in
          let slot_is : slot_after s c ≡ get_or (port_after g.slots p c) p shut = sym (after_own g.slots p c below before.eight) in
          subst (λ x. Account p (called h (At x c) (port_answer g.slots x c)) (get_or (port_after g.slots x c) p shut)) (sym e)
          (subst (λ x. Account p (called h (At p c) x) (get_or (port_after g.slots p c) p shut)) answer-is
          (subst (Account p (called h (At p c) (slot_answer s c))) slot_is (own p h (before.accounts p below) c)))
      at p below (inr ne) =
          subst (Account p (called h (At q c) (port_answer g.slots q c)))
          (sym (after_other g.slots q p c ne))
          (other p h q c (port_answer g.slots q c) ne (before.accounts p below))

  agrees_asked : (g : State) (h : History R) (q : Question) (s : Shown R) → Agrees g h → Agrees g (questioned h q s)
  agrees_asked g h q s before = record {
    bytes_are = before.bytes_are;
    eight = before.eight;
    accounts = λ p below. still p h q s (before.accounts p below);
  }

  agrees_step : (g : State) (h : History R) (c : Call) → Agrees g h → Agrees (after model g c) (called h c (answer model g c))
  agrees_step g h (Pump limit waits) before = agrees_pump g h limit waits before
  agrees_step g h (At q c) before = agrees_at g h q c before

  pub agrees : {g : State} {h : History R} → Reached model g h → Agrees g h
  agrees begins = agrees_start
  agrees (goes {g} {h} r c) = agrees_step g h c (agrees r)
  agrees (asks {g} {h} r q) = agrees_asked g h q _ (agrees r)
