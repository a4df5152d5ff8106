use Rattle.std.proofs.Common.{sym, refl, ◌∙◌}
use Rattle.oxts_judge.proofs.Quiets.{cut}
use Rattle.oxts_judge.proofs.hints.quiet_blocks.Goals as goal

pub loop-block-preserved : goal.loop-block-preserved
loop-block-preserved c =
    let step = c.in-Some.ensures.steps in
    let known = c.loop-block.invariant in
    let after = cut c.args.bytes.now c.in-Some.block.now _ c.loop-block.n 16 known.within (sym known.rest ∙ step.1.0) (step.1.1 ∙ known.size) known.none (c.if-has_sync.ensures.none refl) in
    record { rest = after.rest; size = step.0 ∙ known.size; within = after.within; none = after.none }
