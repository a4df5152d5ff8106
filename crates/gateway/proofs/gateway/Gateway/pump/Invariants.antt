use Rattle.gateway.proofs.Pumping.{Going}
use Rattle.gateway.proofs.gateway.Gateway.pump.Given as goal

abbrev pub invariant-loop-left : goal.invariant-loop-left
invariant-loop-left g l = Going g.F.Family.model g.L.Line.waiting g.L.Line.steps l.limit l.initial.self l.initial.line l.left l.self l.line

abbrev pub decreases-loop-left : goal.decreases-loop-left
decreases-loop-left g l = l.left
