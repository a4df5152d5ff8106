use Rattle.std.proofs.Common.{rules}
use Rattle.oxts_judge.proofs.judge.judge_early.Goals as goal

pub returns-in-None : goal.returns-in-None
returns-in-None g c = record { value = λ told tells. let e = tells c.body.result (search rules) in search rules }
