-- The messages in a queue, oldest first.
use Rattle.std.specs.Prelude.{◌≡◌, ℕ, List, [], ◌∷◌, ◌++◌, take, drop, Some, None, Option}
use Rattle.reading.specs.declared.message.Message.{Message}
use Rattle.ports.specs.declared.queue.Queue.{Queue}

-- A ring from its place `head` on.
abbrev pub rotated : List Message → ℕ → List Message
rotated ring head = drop head ring ++ take head ring

abbrev pub items : Queue → List Message
items q = take q.len (rotated q.ring q.head)

abbrev pub first : List Message → Option Message
first [] = None
first (m ∷ ms) = Some m

abbrev pub rest : List Message → List Message
rest [] = []
rest (m ∷ ms) = ms

-- A queue that gives nothing is as it was.
abbrev pub Unpopped : Option Message → Queue → Queue → Type 0
Unpopped None before after = after ≡ before
Unpopped (Some m) before after = Unit {0}
