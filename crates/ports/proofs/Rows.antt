-- A call of one port of the row is that call of the bank.
use Rattle.std.proofs.Common.{◌≡◌, ℕ, ◌<◌, ltb, List, map, length, get_or, set, sym, ap, ◌∙◌}
use lib.Seq.{map-set}
use Rattle.std.proofs.lemmas.List.{get_or-map}
use Rattle.std.proofs.lemmas.Bool.{cond-true, lt-ltb}
use Rattle.law.specs.Calls.{PortCall, ports}
use Rattle.law.specs.Slots.{shut, slot_after, port_after}
use Rattle.ports.specs.declared.port.Port.{Port}
use Rattle.ports.specs.Ports.{slot_of}

pub at_after : (row : List Port) (p : ℕ) (c : PortCall) (d y : Port) → p < ports → p < length row → slot_of y ≡ slot_after (slot_of (get_or row p d)) c → map slot_of (set row p y) ≡ port_after (map slot_of row) p c
at_after row p c d y below within e =
    map-set slot_of row p y ∙ ap (set (map slot_of row) p) (e ∙ ap (λ s. slot_after s c) (sym (get_or-map slot_of row p d shut within)))
    ∙ sym (cond-true (ltb p ports) (set (map slot_of row) p (slot_after (get_or (map slot_of row) p shut) c)) (map slot_of row) (lt-ltb p ports below))
