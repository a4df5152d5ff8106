use Rattle.std.proofs.Common.{◌≡◌, length}
use Rattle.line.specs.Datagrams.{records, left, next}
use Rattle.line.proofs.datagram.DatagramLine.take.Given as goal

abbrev pub invariant-loop-content : goal.invariant-loop-content
invariant-loop-content l =
    (left l.self.content.now l.self.rest.now ≡ left l.initial.self.content.now l.initial.self.rest.now)
    × (next l.self.content.now (records 0 l.self.rest.now)
    ≡ next l.initial.self.content.now (records 0 l.initial.self.rest.now))

abbrev pub decreases-loop-content : goal.decreases-loop-content
decreases-loop-content l = length l.self.rest.now
