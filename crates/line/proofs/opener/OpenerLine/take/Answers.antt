use Rattle.std.proofs.Common.{◌-◌, ◌≤◌, min, ◌++◌, length, take, drop, sym, ap, ◌∙◌, arith, length-take}
use Rattle.line.specs.Steps.{further}
use Rattle.line.specs.Lines.{contents}
use Rattle.line.proofs.Takes.{through, contents_split, contents_short}
use Rattle.line.proofs.opener.OpenerLine.take.Goals as goal

pub returns-clause-steps : goal.returns-clause-steps
returns-clause-steps g c =
    let t = c.take-k.ensures in
    further _ _ g.L.Line.joins _ c.loop-self.self _ 0 _ _ c.loop-self.invariant.1 (record { waits = t.taken.rest; below = t.steps })

pub returns-clause-taken : goal.returns-clause-taken
returns-clause-taken g c =
    let w = g.L.Line.waiting c.loop-self.self.below in
    let due = c.loop-self.self.due in
    let k = c.take-k.result in
    let t = c.take-k.ensures.taken in
    let i = c.loop-self.invariant.0 in
    let kd : k ≤ min (c.min-most.result - 0) (length c.args.buf.now) = simp length-take at t.fits in
    through _ w _ _ _ _ c.min-most.result k (omega arith)
    (λ x y. (omega arith, omega (arith, ap length i, contents_short w due)))
    (sym i ∙ contents_split w due k (omega arith) t.waited ∙ ap (λ z. take k w ++ contents (due - k) z) (sym t.rest))
    t

pub returns-in_default-clause-steps : goal.returns-in_default-clause-steps
returns-in_default-clause-steps g c =
    let e = c.in_default.ensures.taken in
    further _ _ g.L.Line.joins _ c.loop-self.self _ 0 0 0 c.loop-self.invariant.1 (record { waits = e.1 ∙ sym e.0; below = e.2 })

pub loop-self-preserved : goal.loop-self-preserved
loop-self-preserved g c =
    let e = c.in-Some.ensures.taken in
    let w = g.L.Line.waiting c.loop-self.self.below in (
      sym (ap (λ d. contents d w) c.loop-self-test.true ∙ ap (contents 0) e.0) ∙ c.loop-self.invariant.0,
      further _ _ g.L.Line.joins _ c.loop-self.self _ 0 0 1 c.loop-self.invariant.1 (record { waits = sym (ap (drop 1) e.0); below = e.1 }),
    )
