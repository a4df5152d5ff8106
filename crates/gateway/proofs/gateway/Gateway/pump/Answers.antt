use Rattle.std.proofs.Common.{◌-◌, arith}
use Rattle.std.proofs.lemmas.Grind.{common_steps}
use Rattle.gateway.proofs.Pumping.{Done, going_more, done_full, done_dry}
use Rattle.gateway.proofs.Running.{goes_refused, goes_pump}
use Rattle.gateway.proofs.gateway.Gateway.pump.Goals as goal
use Rattle.gateway.proofs.gateway.Gateway.pump.Goals.{else-loop-left-test, then-loop-left-test+then-k-eq0}

pub returns-then-limit-eq0-clause-run : goal.returns-then-limit-eq0-clause-run
returns-then-limit-eq0-clause-run g c h rep = goes_refused g.F.Family.model g.F.Family.laws _ _ _ 1 h rep (grind (arith, c.then-limit-eq0.either))

pub returns-then-pumped-from-gt-MOST_BYTES-clause-run : goal.returns-then-pumped-from-gt-MOST_BYTES-clause-run
returns-then-pumped-from-gt-MOST_BYTES-clause-run g c h rep = goes_refused g.F.Family.model g.F.Family.laws _ _ _ 2 h rep (grind (arith, c.pumped.ensures.value))

pub loop-left-preserved : goal.loop-left-preserved
loop-left-preserved g c =
    let line = g.L.Line in
    let at = c.loop-left in
    let drew = c.draw-k.ensures in
    going_more g.F.Family.model line.waiting line.steps c.args.limit c.args.self.now c.args.line.now line.joins at.left at.self at.line at.invariant
    c.draw-k.result c.draw-k.new.self c.draw-k.new.line drew.drawn drew.pumped drew.ran drew.steps

pub returns : goal.returns
returns g c =
    let m = g.F.Family.model in
    let line = g.L.Line in
    let at = c.loop-left in
    let end = c.loop-left-test in
    let done : Done m line.waiting line.steps c.args.limit c.args.self.now c.args.line.now at.left end.self end.line = elim end.branch [
      | else-loop-left-test w ↦ rw (w.self-is, w.line-is) (done_full m line.waiting line.steps c.args.limit c.args.self.now c.args.line.now line.joins at.left at.self at.line at.invariant w.loop-left-test.false)
      | then-loop-left-test+then-k-eq0 w ↦
          let drew = w.draw-k.ensures in
          rw (w.self-is, w.line-is) (done_dry m line.waiting line.steps c.args.limit c.args.self.now c.args.line.now line.joins at.left at.self at.line at.invariant
          w.draw-k.result w.draw-k.new.self w.draw-k.new.line drew.drawn drew.pumped drew.ran drew.steps w.if-k-eq0.true w.loop-left-test.true)
    ] in
    record {
      answer = grind (arith, common_steps, done.all, done.going.rest, c.pumped.ensures.value);
      rest = done.going.rest;
      steps = done.going.steps;
      names = tt;
      refused = tt;
      line = tt;
      run = λ h rep. goes_pump m g.F.Family.laws c.args.self.now end.self c.args.limit (line.waiting c.args.line.now) (line.waiting end.line) (c.args.limit - at.left) (omega arith) (omega arith) (omega (arith, c.pumped.ensures.value)) done.all done.going.rest done.going.ran h rep;
    }
