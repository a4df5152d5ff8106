use Rattle.std.proofs.Common.{◌≡◌, ◌+◌, refl, subst, arith}
use Rattle.line.proofs.Takes.{more, done}
use Rattle.line.proofs.consume.fill.Goals as goal

pub loop-done-preserved : goal.loop-done-preserved
loop-done-preserved g c =
    let i = c.loop-done.invariant in
    let m = more (g.L.Line.waiting c.args.line.now) c.args.out.now _ _ _ _ _ _ _ i.0 (omega arith) i.1 i.2 i.3 c.take-k.ensures.taken in
    (m.0, m.1, m.2, m.3, g.L.Line.joins.joins _ _ _ _ _ i.4 c.take-k.ensures.steps)

pub returns-then-k-eq0 : goal.returns-then-k-eq0
returns-then-k-eq0 g c =
    let i = c.loop-done.invariant in
    let e : c.loop-done.done + c.take-k.result ≡ c.loop-done.done = omega arith in
    record {
      steps = subst (λ k. g.L.Line.steps c.args.line.now k c.take-k.new.self) e (g.L.Line.joins.joins _ _ _ _ _ i.4 c.take-k.ensures.steps);
      filled =
          done (g.L.Line.waiting c.args.line.now) c.args.out.now _ _ _ _ _ _ _ refl
          c.loop-done-test.true i.1 i.2 i.3 c.if-k-eq0.true c.take-k.ensures.taken;
    }
