-- What a piece of a recording leaves in the inbox.
use Rattle.std.specs.Prelude.{◌≡◌, ℕ, IsOk, List, [], ◌∷◌, ◌++◌, vec_items}
use Rattle.reading.specs.declared.family.Family.{Ghosts}
use Rattle.reading.specs.declared.message.Message.{Message}
use Rattle.reading.specs.Reading.{Model, reading}
use Rattle.reader.specs.declared.reader.Reader.{Reader}
use Rattle.reader.specs.Standing.{Stands}
use Rattle.navlog.specs.declared.inbox.Inbox.{Inbox}

-- The message goes behind those in the inbox; where it finds no memory, the inbox says that one was lost.
pub record Took (s : Inbox) (m : Message) (t : Inbox) : Type 0 where
  pub kept : IsOk t.kept → vec_items t.messages ≡ vec_items s.messages ++ m ∷ []
  pub lost : IsOk t.kept → IsOk s.kept

-- Where nothing was lost, the reader has read the piece, and the inbox has just the messages that the piece brought.
abbrev pub PieceRead : {F R : Type 0} {G : Ghosts F R} → Model R → Reader F R G → List ℕ → Reader F R G → Inbox → Type 0
PieceRead m r piece r' inbox =
    (bs : List ℕ) → Stands m r bs →
    Stands m r' (bs ++ piece) × ((reading m (bs ++ piece)).tally.messages ≡ (reading m bs).tally.messages ++ vec_items inbox.messages)
