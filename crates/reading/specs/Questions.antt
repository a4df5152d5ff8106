-- What can be asked of a reading: its counts and its latest message.
use Rattle.std.specs.Prelude.{ℕ, List, [], ◌∷◌, length, Some, None, Option}
use Rattle.reading.specs.declared.counts.Counts.{Counts}
use Rattle.reading.specs.declared.message.Message.{Message}
use Rattle.reading.specs.Reading.{Model, reading}

-- the counts of the reading of bs
abbrev pub counts_of : {R : Type 0} → Model R → List ℕ → Counts
counts_of m bs =
    record {
      pumped = length bs;
      accepted = (reading m bs).tally.accepted;
      skipped = (reading m bs).tally.skipped;
      held = length (reading m bs).held;
      whole = (reading m bs).tally.whole;
      passed = (reading m bs).tally.passed;
      faults = (reading m bs).tally.faults;
      messages = length (reading m bs).tally.messages;
    }

-- the last of the messages, none where there is none
abbrev pub latest_of : List Message → Option Message
latest_of [] = None
latest_of (x ∷ []) = Some x
latest_of (x ∷ (y ∷ xs)) = latest_of (y ∷ xs)
