-- The history of a run, and what it says of a port: when it was opened, what came to it, and what it gave.
use Rattle.std.specs.Prelude.{ℕ, Bool, true, false, cond, List, [], ◌∷◌, ◌++◌, length, drop, filter, ◌==◌, nat_lt}
use Rattle.reading.specs.declared.message.Message.{Message}
use Rattle.reading.specs.Reading.{Model}
use Rattle.law.specs.Calls.{Call, Pump, At, PortCall, Open, Take, Missed, Close, Answer, refused, done, passed, gave, told, brought, wants, Question, Shown, messages_of}

-- The calls and questions so far, each with its answer; the last stands outermost.
pub data History (R : Type 0) : Type 0 where
  start : History R
  called : (before : History R) (call : Call) (answer : Answer) → History R
  questioned : (before : History R) (question : Question) (shown : Shown R) → History R

abbrev pub accepted : Answer → Bool
accepted (refused n) = false
accepted done = true
accepted (passed n rest) = true
accepted (gave m) = true
accepted (told n) = true

abbrev pub handed : Answer → List Message
handed (refused n) = []
handed done = []
handed (passed n rest) = []
handed (gave m) = m ∷ []
handed (told n) = []

-- The bytes that the pumps of the history passed, joined.
abbrev pub pumped_by : List ℕ → Call → Answer → List ℕ
pumped_by bs (Pump limit waits) a = bs ++ brought waits a
pumped_by bs (At p c) a = bs

abbrev pub pumped : {R : Type 0} → History R → List ℕ
pumped start = []
pumped (called h c a) = pumped_by (pumped h) c a
pumped (questioned h q s) = pumped h

-- A port's last opening, if it was not closed since: how many messages were published before it, and what it wants.
pub data Opening : Type 0 where
  closed : Opening
  since : (count wanted : ℕ) → Opening

abbrev pub opening_by : (published : ℕ) → Opening → PortCall → Answer → Opening
opening_by n o (Open wanted) a = cond (accepted a) (since n wanted) o
opening_by n o Take a = o
opening_by n o Missed a = o
opening_by n o Close a = cond (accepted a) closed o

-- What a port has given since its opening, oldest first.
abbrev pub given_by : List Message → PortCall → Answer → List Message
given_by gs (Open wanted) a = cond (accepted a) [] gs
given_by gs Take a = gs ++ handed a
given_by gs Missed a = gs
given_by gs Close a = cond (accepted a) [] gs

abbrev pub given_of : (p : ℕ) → List Message → Call → Answer → List Message
given_of p gs (Pump limit waits) a = gs
given_of p gs (At q c) a = cond (q == p) (given_by gs c a) gs

abbrev pub given : {R : Type 0} → (p : ℕ) → History R → List Message
given p start = []
given p (called h c a) = given_of p (given p h) c a
given p (questioned h q s) = given p h

abbrev pub came_of : Opening → List Message → List Message
came_of closed ms = []
came_of (since n wanted) ms = filter (wants wanted) (drop n ms)

module _ {R : Type 0} (model : Model R) where
  abbrev pub published : History R → List Message
  published h = messages_of model (pumped h)

  abbrev pub opening_of : (p : ℕ) → History R → Opening → Call → Answer → Opening
  opening_of p h o (Pump limit waits) a = o
  opening_of p h o (At q c) a = cond (q == p) (opening_by (length (published h)) o c a) o

  abbrev pub opening : (p : ℕ) → History R → Opening
  opening p start = closed
  opening p (called h c a) = opening_of p h (opening p h) c a
  opening p (questioned h q s) = opening p h

  -- The messages that came to a port since its opening, oldest first: those that it wants of the messages that were published since.
  abbrev pub came : (p : ℕ) → History R → List Message
  came p h = came_of (opening p h) (published h)

  -- The history before the call that brought the message with this number.
  abbrev pub before : (number : ℕ) → History R → History R
  before n start = start
  before n (called h c a) = cond (nat_lt (length (published h)) n) h (before n h)
  before n (questioned h q s) = before n h

  -- What the port had given when the message came.
  abbrev pub given_at : (p : ℕ) → History R → Message → List Message
  given_at p h m = given p (before m.number h)
