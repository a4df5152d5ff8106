use Rattle.std.proofs.Common.{◌≡◌, ◌+◌, ◌≤◌, length}
use Rattle.line.specs.Datagrams.{records, span}
use Rattle.line.proofs.datagram.record_count.Given as goal

abbrev pub invariant-loop-after : goal.invariant-loop-after
invariant-loop-after l =
    (l.count + length (records 0 l.rest) ≡ length (records 0 l.memory))
    × (span (records 0 l.memory) + length l.rest ≡ length l.memory + span (records 0 l.rest))
    × (l.count + length l.rest ≤ length l.memory)

abbrev pub decreases-loop-after : goal.decreases-loop-after
decreases-loop-after l = length l.rest
