-- What is true of every reading of a format: its packets are those of the manuals, and all that is kept and counted is theirs.
use Rattle.std.specs.Prelude.{◌≡◌, ℕ, ◌+◌, ◌⊎◌, List, [], ◌∷◌}
use Rattle.reading.specs.declared.message.Kind.TheVariants.{Status, Passed}
use Rattle.reading.specs.Keeps.{Each, count_of}
use Rattle.reading.specs.Reading.{Model, Packet, reading}
use Rattle.oxts.specs.declared.format.Format.{Format}
use Rattle.oxts_judge.specs.Packets.{StructureAPacket, StructureBPacket}
use Rattle.oxts_record.specs.declared.record.Record.{Record}
use Rattle.oxts_record.specs.Heard.{after_all}

abbrev pub bytes_of : List Packet → List (List ℕ)
bytes_of [] = []
bytes_of (p ∷ ps) = p.bytes ∷ bytes_of ps

-- The packet is one that the manuals describe.
abbrev pub Described : Format → Packet → Type 0
Described f p = StructureAPacket f p.bytes ⊎ StructureBPacket f p.bytes

pub record ReadsFormat {M : Type 0} (f : Format) (m : Model (Record M)) : Type 0 where
  pub packets : (bs : List ℕ) → Each (Described f) (reading m bs).tally.packets
  -- the record is what they make
  pub made : (bs : List ℕ) → (reading m bs).tally.made.navigation ≡ after_all f (bytes_of (reading m bs).tally.packets)
  -- whole packets are the messages of kind 4 and 8, and passed ones those of kind 8
  pub whole : (bs : List ℕ) → (reading m bs).tally.whole ≡ count_of Status (reading m bs).tally.messages + count_of Passed (reading m bs).tally.messages
  pub passed : (bs : List ℕ) → (reading m bs).tally.passed ≡ count_of Passed (reading m bs).tally.messages
