-- A port as its callers know it: what each call answers and leaves behind, and what a message does that comes to it.
use Rattle.std.specs.Prelude.{ℕ, ◌+◌, cond, List, [], ◌∷◌, ◌++◌, map, length, replicate, nat_lt, slice_index_or, slice_set}
use Rattle.reading.specs.declared.message.Message.{Message}
use Rattle.law.specs.Calls.{PortCall, Open, Take, Missed, Close, Answer, refused, done, gave, told, depth, ports, wants, wantable}

-- A closed port, or an open one: the sum of the kinds that it wants, what waits there, oldest first, and how many it has missed.
pub data Slot : Type 0 where
  shut : Slot
  opened : (wanted : ℕ) (waiting : List Message) (missed : ℕ) → Slot

-- What waits once m has come to an open port that wants it, and which message is lost then.
abbrev pub placed : (room : ℕ) → List Message → Message → List Message
placed room waiting m = cond (nat_lt (length waiting) room) (waiting ++ m ∷ []) waiting

abbrev pub overflow : (room : ℕ) → List Message → Message → List Message
overflow room waiting m = cond (nat_lt (length waiting) room) [] (m ∷ [])

-- A message is published.
abbrev pub arrived : Slot → Message → Slot
arrived shut m = shut
arrived (opened wanted waiting missed) m =
    cond (wants wanted m) (opened wanted (placed depth waiting m) (missed + length (overflow depth waiting m))) (opened wanted waiting missed)

abbrev pub all_arrived : Slot → List Message → Slot
all_arrived s [] = s
all_arrived s (m ∷ ms) = all_arrived (arrived s m) ms

-- A call of a port whose number is in range.
abbrev pub slot_answer : Slot → PortCall → Answer
slot_answer shut (Open wanted) = cond (wantable wanted) done (refused 6)
slot_answer shut Take = refused 7
slot_answer shut Missed = refused 7
slot_answer shut Close = refused 7
slot_answer (opened w waiting missed) (Open wanted) = refused 5
slot_answer (opened w [] missed) Take = refused 8
slot_answer (opened w (m ∷ waiting) missed) Take = gave m
slot_answer (opened w waiting missed) Missed = told missed
slot_answer (opened w waiting missed) Close = told (length waiting)

abbrev pub slot_after : Slot → PortCall → Slot
slot_after shut (Open wanted) = cond (wantable wanted) (opened wanted [] 0) shut
slot_after shut Take = shut
slot_after shut Missed = shut
slot_after shut Close = shut
slot_after (opened w waiting missed) (Open wanted) = opened w waiting missed
slot_after (opened w [] missed) Take = opened w [] missed
slot_after (opened w (m ∷ waiting) missed) Take = opened w waiting missed
slot_after (opened w waiting missed) Missed = opened w waiting missed
slot_after (opened w waiting missed) Close = shut

-- The same over the row of all ports.
abbrev pub port_answer : List Slot → ℕ → PortCall → Answer
port_answer slots p c = cond (nat_lt p ports) (slot_answer (slice_index_or slots p shut) c) (refused 4)

abbrev pub port_after : List Slot → ℕ → PortCall → List Slot
port_after slots p c = cond (nat_lt p ports) (slice_set slots p (slot_after (slice_index_or slots p shut) c)) slots

abbrev pub published_to : List Slot → Message → List Slot
published_to slots m = map (λ s. arrived s m) slots

abbrev pub all_published_to : List Slot → List Message → List Slot
all_published_to slots [] = slots
all_published_to slots (m ∷ ms) = all_published_to (published_to slots m) ms

abbrev pub new_ports : List Slot
new_ports = replicate ports shut
