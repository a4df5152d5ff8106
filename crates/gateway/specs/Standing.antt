-- The histories that a gateway represents, and what each call makes of them.
use Rattle.reading.specs.declared.family.Family.{Ghosts}
use Rattle.reading.specs.Reading.{Model}
use Rattle.reader.specs.Standing.{Stands}
use Rattle.law.specs.Calls.{Call, Answer, Question, AskCounts, AskLatest, AskRecord, Shown, counted, newest, recorded}
use Rattle.law.specs.Runs.{History, called, questioned, pumped}
use Rattle.law.specs.States.{Reached}
use Rattle.ports.specs.Ports.{slots_of}
use Rattle.gateway.specs.declared.gateway.Gateway.{Gateway}

-- The reader has read the bytes that the history's pumps passed, and the ports are those that its calls lead to.
-- Whoever uses a gateway need not look inside: `Gateway::new` gives the first history, and each call the next.
pub record Represents {F R : Type 0} {G : Ghosts F R} (model : Model R) (g : Gateway F R G) (h : History R) : Type 0 where
  pub reads : Stands model g.reader (pumped h)
  pub run : Reached model (record { bytes = pumped h; slots = slots_of g.bank }) h

-- The call c, with the answer a, has made g' of the gateway g.
abbrev pub GoesOn : {F R : Type 0} {G : Ghosts F R} → Model R → (g g' : Gateway F R G) → Call → Answer → Type 0
GoesOn {F} {R} model g g' c a = (h : History R) → Represents model g h → Represents model g' (called h c a)

-- The gateway g was asked the question q, and showed s.
abbrev pub Shows : {F R : Type 0} {G : Ghosts F R} → Model R → Gateway F R G → Question → Shown R → Type 0
Shows {F} {R} model g q s = (h : History R) → Represents model g h → Represents model g (questioned h q s)

-- What a gateway holds that questions show.
abbrev pub showing : {F R : Type 0} {G : Ghosts F R} → Gateway F R G → Question → Shown R
showing g AskCounts =
    counted record {
      pumped = g.reader.pumped;
      accepted = g.reader.ledger.accepted;
      skipped = g.reader.ledger.skipped;
      held = g.reader.window.held;
      whole = g.reader.ledger.whole;
      passed = g.reader.ledger.passed;
      faults = g.reader.ledger.faults;
      messages = g.reader.ledger.messages;
    }
showing g AskLatest = newest g.reader.ledger.latest
showing g AskRecord = recorded g.reader.ledger.«record»
