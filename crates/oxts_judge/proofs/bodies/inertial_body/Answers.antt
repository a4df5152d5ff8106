use Rattle.std.proofs.Common.{rules}
use Rattle.oxts_judge.specs.Bodies.{inertial_body}
use Rattle.oxts_judge.proofs.bodies.inertial_body.Goals as goal

pub returns : goal.returns
unfolding inertial_body
returns c = search rules
