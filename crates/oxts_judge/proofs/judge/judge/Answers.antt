use Rattle.std.proofs.Common.{rules}
use Rattle.oxts_judge.specs.Bodies.{inertial_body, solution_body}
use Rattle.oxts_judge.proofs.judge.judge.Goals as goal

pub returns-in-23 : goal.returns-in-23
returns-in-23 c = let e = c.judge_early.ensures.value inertial_body (search rules) in search rules

pub returns-in-62 : goal.returns-in-62
returns-in-62 c = let e = c.judge_early-in-62.ensures.value solution_body (search rules) in search rules
