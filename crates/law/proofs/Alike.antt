-- A port's answers are a function of its calls, each with the bytes pumped before it.
use Rattle.std.proofs.Common.{◌≡◌, ℕ, ◌<◌, ◌≤◌, cond, ltb, ◌⊎◌, List, [], ◌∷◌, ◌++◌, length, get_or, drop, sym, refl, ap, ◌∙◌, subst, inl, inr, arith, length-append}
use lib.Seq.{drop-append-le, drop-length}
use Rattle.std.proofs.lemmas.List.{get_or-replicate}
use Rattle.std.proofs.lemmas.Bool.{cases_eq, cases_lt}
use Rattle.reading.specs.declared.message.Message.{Message}
use Rattle.reading.specs.Reading.{Model}
use Rattle.law.specs.Calls.{Call, Pump, At, PortCall, Answer, refused, brought, ports, pump_answer, messages_of}
use Rattle.law.specs.Runs.{History, start, called, pumped, published}
use Rattle.law.specs.Slots.{Slot, shut, all_arrived, arrived, slot_answer, slot_after, port_answer}
use Rattle.law.specs.States.{State, new_state, answer, after, fresh, Reached, begins, goes, asks}
use Rattle.law.specs.Laws.{asked, answered}
use Rattle.law.proofs.Follows.{Follows}
use Rattle.law.proofs.Walk.{shut_stays}
use Rattle.law.proofs.Accounts.{after_own, after_other, Agrees, agrees, get_or_published_to, published_pump}

pub arrived_append : (s : Slot) (ms ns : List Message) → all_arrived s (ms ++ ns) ≡ all_arrived (all_arrived s ms) ns
arrived_append s [] ns = refl
arrived_append s (m ∷ ms) ns = arrived_append (arrived s m) ms ns

module _ {R : Type 0} (model : Model R) (follows : Follows model) where
  -- the port after its last call, and how many messages were published then
  module _ (p : ℕ) where
    pub record Replay : Type 0 where
      pub slot : Slot
      pub count : ℕ

    -- the port once the bytes bs are pumped
    abbrev at_bytes : Replay → List ℕ → Slot
    at_bytes r bs = all_arrived r.slot (drop r.count (messages_of model bs))

    abbrev replay : List (PortCall × List ℕ) → Replay
    replay [] = record { slot = shut; count = 0 }
    replay (c ∷ cs) = record { slot = slot_after (at_bytes (replay cs) c.1) c.0; count = length (messages_of model c.1) }

    abbrev answers : List (PortCall × List ℕ) → List Answer
    answers [] = []
    answers (c ∷ cs) = cond (ltb p ports) (slot_answer (at_bytes (replay cs) c.1) c.0) (refused 4) ∷ answers cs

    -- the history's calls lead there
    pub record Replays (g : State) (h : History R) : Type 0 where
      pub earlier : (replay (asked p h)).count ≤ length (published model h)
      pub slot_is : p < ports → get_or g.slots p shut ≡ at_bytes (replay (asked p h)) (pumped h)
      pub answers_are : answered p h ≡ answers (asked p h)

    replays_start : Replays new_state start
    replays_start = record {
      earlier = omega arith;
      slot_is = λ below. get_or-replicate ports p shut shut below ∙ sym (shut_stays (messages_of model []));
      answers_are = refl;
    }

    replays_pump : (g : State) (h : History R) (limit : ℕ) (waits : List ℕ) → Agrees model follows g h → Replays g h
        → Replays (after model g (Pump limit waits)) (called h (Pump limit waits) (answer model g (Pump limit waits)))
    replays_pump g h limit waits agree before =
        let a = pump_answer (length g.bytes) limit waits in
        let more = brought waits a in
        let r = replay (asked p h) in
        let pub-is = published_pump model follows h limit waits a in
        record {
          earlier = rw pub-is (rw length-append (omega (arith, before.earlier)));
          slot_is = λ below.
              let new = fresh model (pumped h) more in
              grind (
                arith,
                get_or_published_to g.slots (fresh model g.bytes more) p (rw agree.eight below),
                agree.bytes_are,
                before.slot_is below,
                arrived_append r.slot (drop r.count (published model h)) new,
                drop-append-le r.count (published model h) new before.earlier,
                pub-is,
              );
          answers_are = before.answers_are;
        }

    replays_own : (g : State) (h : History R) (c : PortCall) → Agrees model follows g h → Replays g h
        → Replays (after model g (At p c)) (called h (At p c) (answer model g (At p c)))
    replays_own g h c agree before =
        let h' = called h (At p c) (port_answer g.slots p c) in
        let one : asked p h' ≡ (c, pumped h) ∷ asked p h = grind arith in
        let two : answered p h' ≡ port_answer g.slots p c ∷ answered p h = grind arith in
        let next = replay ((c, pumped h) ∷ asked p h) in
        record {
          earlier = subst (λ cs. (replay cs).count ≤ length (published model h)) (sym one) (omega arith);
          slot_is = λ below.
              after_own g.slots p c below agree.eight
              ∙ ap (λ s. slot_after s c) (before.slot_is below)
              ∙ ap (all_arrived next.slot) (sym (drop-length (published model h)))
              ∙ ap (λ cs. at_bytes (replay cs) (pumped h)) (sym one);
          answers_are = grind (arith, one, two, before.answers_are, by (cases_lt p ports));
        }
      where
        by : (p < ports) ⊎ (ports ≤ p) → port_answer g.slots p c ≡ cond (ltb p ports) (slot_answer (at_bytes (replay (asked p h)) (pumped h)) c) (refused 4)
        by (inl below) = grind (arith, before.slot_is below)
        by (inr above) = grind (arith, above)

    replays_other : (g : State) (h : History R) (q : ℕ) (c : PortCall) (a : Answer) → (q ≡ p → ⊥) → Replays g h
        → Replays (after model g (At q c)) (called h (At q c) a)
    replays_other g h q c a ne before =
        let one : asked p (called h (At q c) a) ≡ asked p h = grind (arith, ne) in
        let two : answered p (called h (At q c) a) ≡ answered p h = grind (arith, ne) in
        record {
          earlier = subst (λ cs. (replay cs).count ≤ length (published model h)) (sym one) before.earlier;
          slot_is = λ below.
              after_other g.slots q p c ne ∙ before.slot_is below ∙ ap (λ cs. at_bytes (replay cs) (pumped h)) (sym one);
          answers_are = grind (arith, one, two, before.answers_are);
        }

    replays_step : (g : State) (h : History R) (c : Call) → Agrees model follows g h → Replays g h → Replays (after model g c) (called h c (answer model g c))
    replays_step g h (Pump limit waits) agree before = replays_pump g h limit waits agree before
    replays_step g h (At q c) agree before = by (cases_eq q p)
      where
        by : (q ≡ p) ⊎ (q ≡ p → ⊥) → Replays (after model g (At q c)) (called h (At q c) (answer model g (At q c)))
        by (inl e) = subst (λ x. Replays (after model g (At x c)) (called h (At x c) (answer model g (At x c)))) (sym e) (replays_own g h c agree before)
        by (inr ne) = replays_other g h q c _ ne before

    pub replays : {g : State} {h : History R} → Reached model g h → Replays g h
    replays begins = replays_start
    replays (goes {g} {h} r c) = replays_step g h c (agrees model follows r) (replays r)
    replays (asks {g} {h} r q) = let before = replays r in record { earlier = before.earlier; slot_is = before.slot_is; answers_are = before.answers_are }

    pub alike : {g g' : State} {h h' : History R} → Reached model g h → Reached model g' h' → asked p h' ≡ asked p h → answered p h' ≡ answered p h
    alike r r' same = (replays r').answers_are ∙ ap answers same ∙ sym (replays r).answers_are
