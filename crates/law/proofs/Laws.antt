-- The law of a port and of a pump holds of every run, and a refused call, a missed count or a question changes nothing.
use Rattle.std.proofs.Common.{◌≡◌, ℕ, ◌<◌, ◌≤◌, Bool, true, false, cond, not, ◌⊎◌, List, [], ◌++◌, length, get_or, drop, sym, refl, ap, ◌∙◌, subst, inl, inr, append-nil, arith}
use lib.Seq.{drop-length, set-get_or}
use Rattle.std.specs.List.{Contains, flat_map, All}
use Rattle.std.proofs.lemmas.List.Elements.{All-nil, All-filter, All-contains_itself, filter_passes}
use Rattle.std.proofs.lemmas.Bool.{not-true, cases_lt}
use Rattle.reading.specs.declared.message.Message.{Message}
use Rattle.reading.specs.Reading.{Model}
use Rattle.law.specs.Calls.{Call, Pump, At, PortCall, Open, Take, Missed, Close, Answer, refused, done, told, brought, wantable, wants, depth, ports, pump_answer, Question, Shown, shown_of, messages_of}
use Rattle.law.specs.Runs.{History, start, called, questioned, Opening, closed, since, pumped, published, opening, given, came, came_of, given_at, accepted}
use Rattle.law.specs.Slots.{Slot, shut, opened, overflow, all_published_to, slot_answer, slot_after, port_answer, port_after}
use Rattle.law.specs.States.{State, answer, after, fresh, Reached, begins, goes, asks}
use Rattle.law.specs.Laws.{Rises, lost_when, LostIfFull, waiting_when, among, without, oldest, when_open, PortLaw, PumpLaw}
use Rattle.law.proofs.Follows.{Follows}
use Rattle.law.proofs.Numbers.{rises_kept, rises_drop, rises_counted, without_front, parted, all_parts}
use Rattle.law.proofs.Walk.{base, missed as missed_by}
use Rattle.law.proofs.Fates.{missed_all, missed_once, held_rest, met_all, lost_of, lost_joined, lost_unique, fates}
use Rattle.law.proofs.Policies.{fair_base}
use Rattle.law.proofs.Accounts.{Agrees, agrees, Account, is_shut, is_open}

pub pump_law : (n limit : ℕ) (waits : List ℕ) → PumpLaw n limit waits (pump_answer n limit waits)
pump_law n limit waits = record {
  no_limit = λ e. grind (arith, e);
  high_limit = λ l. grind (arith, l);
  no_room = λ l u f. grind (arith, l, u, f);
  passes = λ l u f. grind (arith, l, u, f);
}

-- a message is lost if the port is full
full : (lost waits : List Message) (m : Message) → lost ≡ lost_when waits m → LostIfFull lost waits m
full lost waits m e = grind (arith, e)

all_none : (P : Message → Type 0) {ms : List Message} → ms ≡ [] → All P ms
all_none P none = subst (All P) (sym none) (All-nil P)

-- a refused call changes nothing
still_slot : (s : Slot) (c : PortCall) → accepted (slot_answer s c) ≡ false → slot_after s c ≡ s
still_slot s c e = grind (arith, e)

asked_slot : (s : Slot) → slot_after s Missed ≡ s
asked_slot s = grind arith

pub asked_row : (slots : List Slot) (p : ℕ) → port_after slots p Missed ≡ slots
asked_row slots p = grind (arith, asked_slot (get_or slots p shut), set-get_or slots p shut)

still_brought : (waits : List ℕ) (a : Answer) → accepted a ≡ false → brought waits a ≡ []
still_brought waits a e = grind (arith, e)

module _ {R : Type 0} (model : Model R) (follows : Follows model) where
  -- the last call of a run
  abbrev pub Reachable : History R → Type 0
  Reachable h = (g : State) × Reached model g h

  last : {g' : State} {h : History R} {c : Call} {a : Answer} → Reached model g' (called h c a)
      → (g : State) × Reached model g h × (g' ≡ after model g c) × (a ≡ answer model g c)
  last (goes {g} r c) = (g, r, refl, refl)

  -- the last question of a run
  last_shown : {g : State} {h : History R} {q : Question} {s : Shown R} → Reached model g (questioned h q s)
      → Reached model g h × (s ≡ shown_of model g.bytes q)
  last_shown (asks {g} r q) = (r, refl)

  -- a history leads to one gateway
  only : (h : History R) {g g' : State} → Reached model g h → Reached model g' h → g ≡ g'
  only start begins begins = refl
  only (called h c a) r r' =
      let one = last r in
      let two = last r' in
      one.2 ∙ ap (λ g. after model g c) (only h one.1 two.1) ∙ sym two.2
  only (questioned h q s) r r' = only h (last_shown r).0 (last_shown r').0

  published_rises : (h : History R) → Rises (published model h)
  published_rises h = (rises_counted 1 (published model h) (λ k d l. let e = follows.numbers (pumped h) k d l in e ∙ omega arith)).0

  came_rises : (h : History R) (o : Opening) → Rises (came_of o (published model h))
  came_rises h closed = tt
  came_rises h (since n w) = rises_kept (wants w) _ (rises_drop n _ (published_rises h))

  -- the port's part, by its account
  answer_at : (h : History R) (p : ℕ) (c : PortCall) (a : Answer) (s : Slot) (g : State) → p < ports → Reached model g h → get_or g.slots p shut ≡ s
      → Reachable (called h (At p c) a) → a ≡ slot_answer s c
  answer_at h p c a s g below r is run =
      let one = last run.1 in
      one.3 ∙ ap (λ g. port_answer g.slots p c) (only h one.1 r) ∙ grind (arith, below, is)

  module _ (Run : History R → Type 0) (real : (h : History R) → Run h → Reachable h) (h : History R) (p : ℕ) where
    abbrev Answers : Slot → Type 0
    Answers s = (c : PortCall) (a : Answer) → Run (called h (At p c) a) → a ≡ slot_answer s c

    take_is : (w : ℕ) (ws : List Message) (n : ℕ) → slot_answer (opened w ws n) Take ≡ oldest ws
    take_is w ws n = grind arith

    port_law : {s : Slot} → Account model follows p h s → Answers s → PortLaw model Run h p
    port_law (is_shut o g) at =
        let none : came model p h ≡ [] = ap (λ x. came_of x (published model h)) o in
        record {
          lost = λ m. [];
          lost_met = all_none (λ m. [] ≡ lost_when (waiting_when (λ _. []) (came model p h) (given_at model p h m) m) m) none;
          lost_only = λ lost' _. all_none (λ m. lost' m ≡ []) none;
          missed = [];
          missed_lost = sym (ap (flat_map (λ _. [])) none);
          came_rises = came_rises h (opening model p h);
          given_came = all_none (Contains (came model p h)) g;
          given_rises = rw g tt;
          missed_came = All-nil (Contains (came model p h));
          missed_once = tt;
          given_not_missed = all_none (λ m. among m.number [] ≡ false) g;
          waiting = [];
          waiting_rest = sym (ap (λ xs. without (without xs []) (given p h)) none);
          waiting_rises = tt;
          waiting_room = omega arith;
          fates = all_none (λ m. Contains (given p h) m ⊎ (Contains [] m ⊎ Contains [] m)) none;
          missed_full = all_none (λ m. LostIfFull [] (waiting_when (λ _. []) (came model p h) (given_at model p h m) m) m) none;
          open_answers = λ w a run. at (Open w) a run ∙ ap (λ x. when_open x (refused 5) (cond (wantable w) done (refused 6))) (sym o);
          take_answers = λ a run. at Take a run ∙ ap (λ x. when_open x (oldest []) (refused 7)) (sym o);
          missed_answers = λ a run. at Missed a run ∙ ap (λ x. when_open x (told 0) (refused 7)) (sym o);
          close_answers = λ a run. at Close a run ∙ ap (λ x. when_open x (told 0) (refused 7)) (sym o);
        }
    port_law (is_open n w ws count o le eq cnt al rm) at =
        let F = given_at model p h in
        let all = came model p h in
        let gs = given p h in
        let lost = missed_by model p h in
        let rises = came_rises h (opening model p h) in
        let kept : Message → Bool = λ m. not (among m.number lost) in
        let rest : without all lost ≡ gs ++ ws = sym (held_rest base fair_base F [] all rises al) ∙ eq in
        let held-rises : Rises (gs ++ ws) = subst Rises rest (rises_kept kept all rises) in
        let held-came : All (Contains all) (gs ++ ws) = subst (All (Contains all)) rest (All-filter kept (Contains all) all (All-contains_itself all)) in
        let missed_came : All (Contains all) lost = missed_all base fair_base F (Contains all) [] all rises al (All-contains_itself all) in
        let met = met_all base fair_base F all rises al in
        record {
          lost = lost_of base fair_base F all;
          lost_met = met;
          lost_only = λ lost' met'. lost_unique (overflow depth) F lost' (lost_of base fair_base F all) all rises met' met;
          missed = lost;
          missed_lost = sym (ap (λ xs. flat_map (lost_of base fair_base F xs) all) (sym (append-nil all)) ∙ lost_joined base fair_base F [] all [] (subst Rises (sym (append-nil all)) rises));
          came_rises = rises;
          given_came = (all_parts (Contains all) gs ws held-came).0;
          given_rises = (parted gs ws held-rises).front;
          missed_came = missed_came;
          missed_once = missed_once base fair_base F [] all rises al;
          given_not_missed = λ k d l. not-true _
              ((all_parts (λ m. kept m ≡ true) gs ws (subst (All (λ m. kept m ≡ true)) rest (filter_passes kept all))).0 k d l);
          waiting = ws;
          waiting_rest = sym (ap (λ xs. without xs gs) rest ∙ without_front gs ws held-rises);
          waiting_rises = (parted gs ws held-rises).back;
          waiting_room = rm;
          fates = fates all lost gs ws rises missed_came rest;
          missed_full = λ k d l. full _ _ (get_or all k d) (met k d l);
          open_answers = λ x a run. at (Open x) a run ∙ ap (λ y. when_open y (refused 5) (cond (wantable x) done (refused 6))) (sym o);
          take_answers = λ a run. at Take a run ∙ take_is w ws count ∙ ap (λ y. when_open y (oldest ws) (refused 7)) (sym o);
          missed_answers = λ a run. at Missed a run ∙ ap told cnt ∙ ap (λ y. when_open y (told (length lost)) (refused 7)) (sym o);
          close_answers = λ a run. at Close a run ∙ ap (λ y. when_open y (told (length ws)) (refused 7)) (sym o);
        }

  pub still : (g : State) (h : History R) (c : Call) → Agrees model follows g h → accepted (answer model g c) ≡ false → after model g c ≡ g
  still g h (Pump limit waits) agree e =
      ap (λ more. record { bytes = g.bytes ++ more; slots = all_published_to g.slots (fresh model g.bytes more) }) (still_brought waits _ e)
      ∙ ap (λ bs. record { bytes = bs; slots = all_published_to g.slots (drop (length (messages_of model g.bytes)) (messages_of model bs)) }) (append-nil g.bytes)
      ∙ ap (λ ms. record { bytes = g.bytes; slots = all_published_to g.slots ms }) (drop-length (messages_of model g.bytes))
  still g h (At p c) agree e = ap (λ ss. record { bytes = g.bytes; slots = ss }) (by (cases_lt p ports))
    where
      by : (p < ports) ⊎ (ports ≤ p) → port_after g.slots p c ≡ g.slots
      by (inl below) = grind (arith, e, still_slot (get_or g.slots p shut) c, set-get_or g.slots p shut)
      by (inr above) = grind (arith, above)

  pub pump_answers : (h : History R) (limit : ℕ) (waits : List ℕ) (a : Answer) → Reachable (called h (Pump limit waits) a) → PumpLaw (length (pumped h)) limit waits a
  pump_answers h limit waits a run =
      let one = last run.1 in
      subst (PumpLaw (length (pumped h)) limit waits)
      (sym (one.3 ∙ ap (λ bs. pump_answer (length bs) limit waits) (agrees model follows one.1).bytes_are))
      (pump_law (length (pumped h)) limit waits)

  pub shown_answers : (h : History R) (q : Question) (s : Shown R) → Reachable (questioned h q s) → s ≡ shown_of model (pumped h) q
  shown_answers h q s run =
      let one = last_shown run.1 in
      one.1 ∙ ap (λ bs. shown_of model bs q) (agrees model follows one.0).bytes_are

  pub port : (Run : History R → Type 0) → ((h : History R) → Run h → Reachable h) → (h : History R) → Run h → (p : ℕ) → p < ports → PortLaw model Run h p
  port Run real h run p below =
      let it = real h run in
      port_law Run real h p ((agrees model follows it.1).accounts p below) (λ c a run'. answer_at h p c a (get_or it.0.slots p shut) it.0 below it.1 refl (real _ run'))

  pub no_port : (h : History R) (p : ℕ) (c : PortCall) (a : Answer) → ports ≤ p → Reachable (called h (At p c) a) → a ≡ refused 4
  no_port h p c a above run =
      let one = last run.1 in
      one.3 ∙ grind (arith, above)

  pub refused_still : (h : History R) (g₁ g₂ : State) (c : Call) (n : ℕ) → Reached model g₁ h → Reached model g₂ (called h c (refused n)) → g₂ ≡ g₁
  refused_still h g₁ g₂ c n r₁ r₂ =
      let one = last r₂ in
      one.2 ∙ still one.0 h c (agrees model follows one.1) (sym (ap accepted one.3)) ∙ only h one.1 r₁

  pub missed_still : (h : History R) (g₁ g₂ : State) (p : ℕ) (a : Answer) → Reached model g₁ h → Reached model g₂ (called h (At p Missed) a) → g₂ ≡ g₁
  missed_still h g₁ g₂ p a r₁ r₂ =
      let one = last r₂ in
      one.2 ∙ ap (λ g. after model g (At p Missed)) (only h one.1 r₁)
      ∙ ap (λ ss. record { bytes = g₁.bytes; slots = ss }) (asked_row g₁.slots p)

  pub shown_still : (h : History R) (g₁ g₂ : State) (q : Question) (s : Shown R) → Reached model g₁ h → Reached model g₂ (questioned h q s) → g₂ ≡ g₁
  shown_still h g₁ g₂ q s r₁ r₂ = only h (last_shown r₂).0 r₁
