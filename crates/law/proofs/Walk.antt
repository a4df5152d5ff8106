-- A walk over the messages that came to a port, oldest first: what it holds and misses on the way.
use Rattle.std.proofs.Common.{◌≡◌, ℕ, suc, ◌+◌, ◌≤◌, Bool, true, false, List, [], ◌∷◌, ◌++◌, length, drop, filter, sym, refl, ap, ◌∙◌, subst, append_assoc, add-zero, add_assoc, arith, length-append}
use lib.Seq.{drop-append_seam}
use Rattle.std.specs.List.{All}
use Rattle.reading.specs.declared.message.Message.{Message}
use Rattle.reading.specs.Reading.{Model}
use Rattle.law.specs.Calls.{wants, depth}
use Rattle.law.specs.Runs.{History, came, given_at}
use Rattle.law.specs.Slots.{shut, opened, all_arrived, placed, overflow}

-- What an open port does with a message that comes: what waits afterwards, and what is lost.
pub record Policy : Type 0 where
  pub place : List Message → Message → List Message
  pub lose : List Message → Message → List Message

abbrev pub base : Policy
base = record { place = placed depth; lose = overflow depth }

-- The messages that came are gone through, oldest first. Of those that came before m, `held` are the ones that were not lost; what waits when m comes are those of them that the port had not given by then.
abbrev pub waiting_among : (held given : List Message) → List Message
waiting_among held given = drop (length given) held

abbrev pub held_with : Policy → (given held : List Message) → Message → List Message
held_with π given held m = given ++ π.place (waiting_among held given) m

abbrev pub missed_with : Policy → (given held : List Message) → Message → List Message
missed_with π given held m = π.lose (waiting_among held given) m

abbrev pub held_among : Policy → (given_at : Message → List Message) (held came : List Message) → List Message
held_among π given_at held [] = held
held_among π given_at held (m ∷ ms) = held_among π given_at (held_with π (given_at m) held m) ms

abbrev pub missed_among : Policy → (given_at : Message → List Message) (held came : List Message) → List Message
missed_among π given_at held [] = []
missed_among π given_at held (m ∷ ms) = missed_with π (given_at m) held m ++ missed_among π given_at (held_with π (given_at m) held m) ms

abbrev pub held : {R : Type 0} → Model R → (p : ℕ) → History R → List Message
held model p h = held_among base (given_at model p h) [] (came model p h)

abbrev pub missed : {R : Type 0} → Model R → (p : ℕ) → History R → List Message
missed model p h = missed_among base (given_at model p h) [] (came model p h)

module _ (π : Policy) where
  -- only what the port had given at each message's coming counts
  pub held_same : (F G : Message → List Message) (held ms : List Message) → All (λ m. F m ≡ G m) ms → held_among π F held ms ≡ held_among π G held ms
  held_same F G held [] same = refl
  held_same F G held (m ∷ ms) same =
      grind (arith, same 0 m (omega arith), held_same F G (held_with π (G m) held m) ms (λ k d l. same (suc k) d (omega arith)))

  pub missed_same : (F G : Message → List Message) (held ms : List Message) → All (λ m. F m ≡ G m) ms → missed_among π F held ms ≡ missed_among π G held ms
  missed_same F G held [] same = refl
  missed_same F G held (m ∷ ms) same =
      grind (arith, same 0 m (omega arith), missed_same F G (held_with π (G m) held m) ms (λ k d l. same (suc k) d (omega arith)))

  pub held_append : (F : Message → List Message) (held ms ns : List Message) → held_among π F held (ms ++ ns) ≡ held_among π F (held_among π F held ms) ns
  held_append F held [] ns = refl
  held_append F held (m ∷ ms) ns = held_append F (held_with π (F m) held m) ms ns

  pub missed_append : (F : Message → List Message) (held ms ns : List Message) → missed_among π F held (ms ++ ns) ≡ missed_among π F held ms ++ missed_among π F (held_among π F held ms) ns
  missed_append F held [] ns = refl
  missed_append F held (m ∷ ms) ns =
      grind (arith, missed_append F (held_with π (F m) held m) ms ns, append_assoc)

  -- the queue behind what was given
  pub held_placed : (gs ws : List Message) (m : Message) → held_with π gs (gs ++ ws) m ≡ gs ++ π.place ws m
  held_placed gs ws m = ap (λ xs. gs ++ π.place xs m) (drop-append_seam gs ws)

  pub missed_overflow : (gs ws : List Message) (m : Message) → missed_with π gs (gs ++ ws) m ≡ π.lose ws m
  missed_overflow gs ws m = ap (λ xs. π.lose xs m) (drop-append_seam gs ws)

  pub held_step : (F : Message → List Message) (gs ws : List Message) (m : Message) (ms : List Message) → F m ≡ gs
      → held_among π F (gs ++ ws) (m ∷ ms) ≡ held_among π F (gs ++ π.place ws m) ms
  held_step F gs ws m ms at =
      grind (arith, at, held_placed gs ws m)

  pub missed_step : (F : Message → List Message) (gs ws : List Message) (m : Message) (ms : List Message) → F m ≡ gs
      → missed_among π F (gs ++ ws) (m ∷ ms) ≡ π.lose ws m ++ missed_among π F (gs ++ π.place ws m) ms
  missed_step F gs ws m ms at =
      grind (arith, at, missed_overflow gs ws m, held_placed gs ws m)

  -- At each message's coming, what the port had given is the front of what it held.
  abbrev pub Along : (given_at : Message → List Message) (held came : List Message) → Type 0
  Along given_at held [] = Unit {0}
  Along given_at held (m ∷ ms) = ((ws : List Message) × (held ≡ given_at m ++ ws)) × Along given_at (held_with π (given_at m) held m) ms

  pub along_same : (F G : Message → List Message) (held ms : List Message) → All (λ m. F m ≡ G m) ms → Along G held ms → Along F held ms
  along_same F G held [] same a = tt
  along_same F G held (m ∷ ms) same a =
      let here : F m ≡ G m = same 0 m (omega arith) in (
        (a.0.0, a.0.1 ∙ ap (λ gs. gs ++ a.0.0) (sym here)),
        subst (λ gs. Along F (held_with π gs held m) ms) (sym here) (along_same F G (held_with π (G m) held m) ms (λ k d l. same (suc k) d (omega arith)) a.1),
      )

  pub along_append : (F : Message → List Message) (held ms ns : List Message) → Along F held ms → Along F (held_among π F held ms) ns → Along F held (ms ++ ns)
  along_append F held [] ns a b = b
  along_append F held (m ∷ ms) ns a b = (a.0, along_append F (held_with π (F m) held m) ms ns a.1 b)

  pub along_still : (F : Message → List Message) (gs ws ms : List Message) → All (λ m. F m ≡ gs) ms → Along F (gs ++ ws) ms
  along_still F gs ws [] at = tt
  along_still F gs ws (m ∷ ms) at =
      let here : F m ≡ gs = at 0 m (omega arith) in (
        (ws, ap (λ x. x ++ ws) (sym here)),
        subst (λ x. Along F x ms) (sym (ap (λ x. held_with π x (gs ++ ws) m) here ∙ held_placed gs ws m))
            (along_still F gs (π.place ws m) ms (λ k d l. at (suc k) d (omega arith))),
      )

pub placed_room : (room : ℕ) (ws : List Message) (m : Message) → length ws ≤ room → length (placed room ws m) ≤ room
placed_room room ws m few = grind (arith, few, length-append ws (m ∷ []))

-- What comes to an open port while nothing is given.
pub record Come (F : Message → List Message) (wanted : ℕ) (gs ws : List Message) (count : ℕ) (ms : List Message) : Type 0 where
  pub waits : List Message
  pub misses : ℕ
  pub slot : all_arrived (opened wanted ws count) ms ≡ opened wanted waits misses
  pub held : held_among base F (gs ++ ws) (filter (wants wanted) ms) ≡ gs ++ waits
  pub missed : misses ≡ count + length (missed_among base F (gs ++ ws) (filter (wants wanted) ms))
  pub room : length ws ≤ depth → length waits ≤ depth

come_wanted : (F : Message → List Message) (wanted : ℕ) (gs ws : List Message) (count : ℕ) (m : Message) (ms : List Message) → F m ≡ gs
    → wants wanted m ≡ true → Come F wanted gs (placed depth ws m) (count + length (overflow depth ws m)) ms → Come F wanted gs ws count (m ∷ ms)
come_wanted F wanted gs ws count m ms at w rest = record {
  waits = rest.waits;
  misses = rest.misses;
  slot = rw w rest.slot;
  held = rw w (held_step base F gs ws m (filter (wants wanted) ms) at ∙ rest.held);
  missed = rw w (rest.missed ∙ add_assoc count _ _ ∙ ap (λ n. count + n) (sym (length-append (overflow depth ws m) _))
      ∙ ap (λ x. count + length x) (sym (missed_step base F gs ws m (filter (wants wanted) ms) at)));
  room = λ few. rest.room (placed_room depth ws m few);
}

come_other : (F : Message → List Message) (wanted : ℕ) (gs ws : List Message) (count : ℕ) (m : Message) (ms : List Message)
    → wants wanted m ≡ false → Come F wanted gs ws count ms → Come F wanted gs ws count (m ∷ ms)
come_other F wanted gs ws count m ms w rest = record {
  waits = rest.waits;
  misses = rest.misses;
  slot = rw w rest.slot;
  held = rw w rest.held;
  missed = rw w rest.missed;
  room = rest.room;
}

pub come : (F : Message → List Message) (wanted : ℕ) (gs ws : List Message) (count : ℕ) (ms : List Message) → All (λ m. F m ≡ gs) ms → Come F wanted gs ws count ms
come F wanted gs ws count [] at = record { waits = ws; misses = count; slot = refl; held = refl; missed = sym (add-zero count); room = λ few. few }
come F wanted gs ws count (m ∷ ms) at =
    let later : All (λ x. F x ≡ gs) ms = λ k d l. at (suc k) d (omega arith) in
    by (come F wanted gs (placed depth ws m) (count + length (overflow depth ws m)) ms later) (come F wanted gs ws count ms later) (wants wanted m) refl
  where
    by : Come F wanted gs (placed depth ws m) (count + length (overflow depth ws m)) ms → Come F wanted gs ws count ms → (b : Bool) → wants wanted m ≡ b → Come F wanted gs ws count (m ∷ ms)
    by yes' no' true w = come_wanted F wanted gs ws count m ms (at 0 m (omega arith)) w yes'
    by yes' no' false w = come_other F wanted gs ws count m ms w no'

pub shut_stays : (ms : List Message) → all_arrived shut ms ≡ shut
shut_stays [] = refl
shut_stays (m ∷ ms) = shut_stays ms
