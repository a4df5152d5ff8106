use Rattle.std.proofs.Common.{◌≡◌, ◌-◌, ◌≤◌, ◌++◌, length, take, drop}
use Rattle.line.proofs.consume.fill.Given as goal

abbrev pub invariant-loop-done : goal.invariant-loop-done
invariant-loop-done g l =
    let w = g.L.Line.waiting l.initial.line in
    (l.done ≤ l.most) × (l.done ≤ length w)
    × (g.L.Line.waiting l.line ≡ drop l.done w)
    × (l.out ≡ take l.done w ++ drop l.done l.initial.out)
    × g.L.Line.steps l.initial.line l.done l.line

abbrev pub decreases-loop-done : goal.decreases-loop-done
decreases-loop-done g l = l.most - l.done
