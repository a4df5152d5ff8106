-- The ports before the index have got the message.
use Rattle.std.proofs.Common.{◌+◌, ◌^◌, ◌<◌, map}
use Rattle.ports.specs.Ports.{slot_of, most_missed}
use Rattle.ports.proofs.Brought.{ReachedSoFar}
use Rattle.ports.proofs.bank.bring.Given as goal

abbrev pub invariant-loop-port : goal.invariant-loop-port
invariant-loop-port l = most_missed (map slot_of l.initial.ports) + 1 < 2 ^ 64 → ReachedSoFar l.message l.initial.ports l.ports l.port-index
