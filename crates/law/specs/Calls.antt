-- The calls and questions of a gateway, and their answers.
use Rattle.std.specs.Prelude.{ℕ, ◌+◌, ◌^◌, min, Bool, false, cond, not, List, [], length, take, drop, Option, ◌==◌, bit_and, nat_le}
use Rattle.reading.specs.declared.counts.Counts.{Counts}
use Rattle.reading.specs.declared.message.Message.{Message}
use Rattle.reading.specs.Kinds.{kind_bit}
use Rattle.reading.specs.Reading.{Model, reading}
use Rattle.reading.specs.Questions.{counts_of, latest_of}

-- How many messages may wait at an open port.
abbrev pub depth : ℕ
depth = 16

-- The ports are numbered from 0 to 7.
abbrev pub ports : ℕ
ports = 8

-- The most bytes that one pump passes, and all pumps together.
abbrev pub most_limit : ℕ
most_limit = 4096

abbrev pub most_bytes : ℕ
most_bytes = 2 ^ 40

-- The sum of the bits of all kinds.
abbrev pub all_kinds : ℕ
all_kinds = 31

-- A call of one port.
pub data PortCall : Type 0 where
  Open : (wanted : ℕ) → PortCall
  Take : PortCall
  Missed : PortCall
  Close : PortCall

-- A call of the gateway: a pump over a line in which the bytes `waits` wait, or a call of the port with a number.
pub data Call : Type 0 where
  Pump : (limit : ℕ) (waits : List ℕ) → Call
  At : (port : ℕ) (call : PortCall) → Call

pub data Answer : Type 0 where
  -- the refusal with this number
  refused : (number : ℕ) → Answer
  -- the port is open
  done : Answer
  -- a pump passed so many bytes, and `rest` still waits in its line
  passed : (bytes : ℕ) (rest : List ℕ) → Answer
  -- a take gave this message
  gave : Message → Answer
  -- so many messages were missed, or thrown away by a close
  told : (count : ℕ) → Answer

-- A port opened for `wanted` wants the message.
abbrev pub wants : ℕ → Message → Bool
wants wanted m = not (bit_and wanted (kind_bit m.kind) == 0)

-- Some kind is wanted, and nothing else than kinds.
abbrev pub wantable : ℕ → Bool
wantable wanted = cond (wanted == 0) false (nat_le wanted all_kinds)

abbrev pub limited : ℕ → Bool
limited limit = cond (limit == 0) false (nat_le limit most_limit)

-- What a pump answers once so many bytes are pumped. If it is not refused, it passes the smaller of its limit and what waits.
abbrev pub pump_answer : (pumped limit : ℕ) (waits : List ℕ) → Answer
pump_answer pumped limit waits =
    cond (limited limit) (cond (nat_le (pumped + limit) most_bytes) (passed (min limit (length waits)) (drop (min limit (length waits)) waits)) (refused 2)) (refused 1)

-- The bytes that a pump brought in, by its answer.
abbrev pub brought : (waits : List ℕ) → Answer → List ℕ
brought waits (refused n) = []
brought waits done = []
brought waits (passed n rest) = take n waits
brought waits (gave m) = []
brought waits (told n) = []

-- A question, and what is shown for it.
pub data Question : Type 0 where
  AskCounts : Question
  AskLatest : Question
  AskRecord : Question

pub data Shown (R : Type 0) : Type 0 where
  counted : Counts → Shown R
  newest : Option Message → Shown R
  recorded : R → Shown R

-- The messages of the reading of the bytes bs.
abbrev pub messages_of : {R : Type 0} → Model R → List ℕ → List Message
messages_of model bs = (reading model bs).tally.messages

-- What a question shows once the bytes bs are pumped.
abbrev pub shown_of : {R : Type 0} → Model R → List ℕ → Question → Shown R
shown_of model bs AskCounts = counted (counts_of model bs)
shown_of model bs AskLatest = newest (latest_of (messages_of model bs))
shown_of model bs AskRecord = recorded (reading model bs).tally.made
