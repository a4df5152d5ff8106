use Rattle.std.proofs.Common.{◌≡◌, length}
use Rattle.line.specs.Lines.{contents}
use Rattle.line.specs.Steps.{Opened}
use Rattle.line.proofs.opener.OpenerLine.take.Given as goal

abbrev pub invariant-loop-self : goal.invariant-loop-self
invariant-loop-self g l =
    (contents l.self.due (g.L.Line.waiting l.self.below) ≡ contents l.initial.self.due (g.L.Line.waiting l.initial.self.below))
    × Opened g.L.Line.waiting g.L.Line.steps l.initial.self 0 l.self

abbrev pub decreases-loop-self : goal.decreases-loop-self
decreases-loop-self g l = length (g.L.Line.waiting l.self.below)
