-- No port misses more by its calls, and one more at most by a message.
use Rattle.std.proofs.Common.{ℕ, zero, suc, ◌+◌, ◌≤◌, List, [], ◌∷◌, get_or, set, arith}
use Rattle.reading.specs.declared.message.Message.{Message}
use Rattle.law.specs.Calls.{PortCall}
use Rattle.law.specs.Slots.{Slot, shut, slot_after, port_after, arrived, published_to}
use Rattle.ports.specs.Ports.{missed_of, most_missed}

pub most_at : (ss : List Slot) (i : ℕ) → missed_of (get_or ss i shut) ≤ most_missed ss
most_at [] i = omega arith
most_at (s ∷ ss) zero = omega arith
most_at (s ∷ ss) (suc i) = omega (arith, most_at ss i)

most_set : (ss : List Slot) (i : ℕ) (t : Slot) (n : ℕ) → most_missed ss ≤ n → missed_of t ≤ n → most_missed (set ss i t) ≤ n
most_set [] i t n all here = all
most_set (s ∷ ss) zero t n all here = omega arith
most_set (s ∷ ss) (suc i) t n all here = omega (arith, most_set ss i t n (omega arith) here)

after_less : (s : Slot) (c : PortCall) → missed_of (slot_after s c) ≤ missed_of s
after_less s c = grind arith

pub most_after : (ss : List Slot) (p : ℕ) (c : PortCall) (n : ℕ) → most_missed ss ≤ n → most_missed (port_after ss p c) ≤ n
most_after ss p c n all =
    let s = get_or ss p shut in
    grind (arith, most_set ss p (slot_after s c) n all, after_less s c, most_at ss p)

arrived_more : (s : Slot) (m : Message) → missed_of (arrived s m) ≤ missed_of s + 1
arrived_more s m = grind arith

pub most_published : (ss : List Slot) (m : Message) → most_missed (published_to ss m) ≤ most_missed ss + 1
most_published [] m = omega arith
most_published (s ∷ ss) m = omega (arith, arrived_more s m, most_published ss m)
