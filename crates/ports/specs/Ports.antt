-- The ports as the law has them, and what a message does that a reader hands to them.
use Rattle.std.specs.Prelude.{◌≡◌, ℕ, ◌+◌, ◌^◌, ◌<◌, max, List, [], ◌∷◌, map, Some, None, Option}
use Rattle.reading.specs.declared.message.Message.{Message}
use Rattle.law.specs.Slots.{Slot, shut, opened, published_to}
use Rattle.ports.specs.declared.kinds.Kinds.{Kinds}
use Rattle.ports.specs.declared.port.Port.{Port}
use Rattle.ports.specs.declared.bank.Bank.{Bank}
use Rattle.ports.specs.Queues.{items}

abbrev pub slot_with : Option Kinds → List Message → ℕ → Slot
slot_with None waiting missed = shut
slot_with (Some kinds) waiting missed = opened kinds.sum waiting missed

abbrev pub slot_of : Port → Slot
slot_of p = slot_with p.wanted (items p.queue) p.missed

abbrev pub slots_of : Bank → List Slot
slots_of b = map slot_of b.ports

-- How many messages a port has missed, and the most that any port of a row has.
abbrev pub missed_of : Slot → ℕ
missed_of shut = 0
missed_of (opened wanted waiting missed) = missed

abbrev pub most_missed : List Slot → ℕ
most_missed [] = 0
most_missed (s ∷ ss) = max (missed_of s) (most_missed ss)

-- The port can count one more that it misses.
abbrev pub Room : Port → Type 0
Room p = missed_of (slot_of p) + 1 < 2 ^ 64

-- The bank b takes the message m and becomes b', as long as each port can count one more.
abbrev pub Took : Bank → Message → Bank → Type 0
Took b m b' = most_missed (slots_of b) + 1 < 2 ^ 64 → slots_of b' ≡ published_to (slots_of b) m
