-- What each call of a gateway answers and leaves behind, and the states that a new gateway reaches.
use Rattle.std.specs.Prelude.{ℕ, List, [], ◌++◌, length, drop}
use Rattle.reading.specs.declared.message.Message.{Message}
use Rattle.reading.specs.Reading.{Model}
use Rattle.law.specs.Calls.{Call, Pump, At, Answer, pump_answer, brought, Question, shown_of, messages_of}
use Rattle.law.specs.Runs.{History, start, called, questioned}
use Rattle.law.specs.Slots.{Slot, port_answer, port_after, all_published_to, new_ports}

-- The bytes pumped so far, and the row of ports.
pub record State : Type 0 where
  pub bytes : List ℕ
  pub slots : List Slot

abbrev pub new_state : State
new_state = record { bytes = []; slots = new_ports }

module _ {R : Type 0} (model : Model R) where
  -- The messages that the bytes more, behind bs, are first to bring into the reading.
  abbrev pub fresh : (bs more : List ℕ) → List Message
  fresh bs more = drop (length (messages_of model bs)) (messages_of model (bs ++ more))

  abbrev pub answer : State → Call → Answer
  answer g (Pump limit waits) = pump_answer (length g.bytes) limit waits
  answer g (At p c) = port_answer g.slots p c

  abbrev pub after : State → Call → State
  after g (Pump limit waits) =
      let more : List ℕ = brought waits (pump_answer (length g.bytes) limit waits) in
      record { bytes = g.bytes ++ more; slots = all_published_to g.slots (fresh g.bytes more) }
  after g (At p c) = record { bytes = g.bytes; slots = port_after g.slots p c }

  -- A run of a new gateway, with its history.
  pub data Reached : State → History R → Type 0 where
    begins : Reached new_state start
    goes : {g : State} {h : History R} → Reached g h → (c : Call) → Reached (after g c) (called h c (answer g c))
    asks : {g : State} {h : History R} → Reached g h → (q : Question) → Reached g (questioned h q (shown_of model g.bytes q))
