use Rattle.std.proofs.Common.{rules}
use Rattle.oxts_judge.specs.Bodies.{solution_body}
use Rattle.oxts_judge.proofs.bodies.solution_body.Goals as goal

pub returns : goal.returns
unfolding solution_body
returns c = search rules
