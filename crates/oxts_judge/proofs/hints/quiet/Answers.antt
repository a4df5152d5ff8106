use Rattle.std.proofs.Common.{rules}
use Rattle.std.proofs.lemmas.List.{take_rest}
use Rattle.oxts_judge.proofs.Quiets.{none_behind}
use Rattle.oxts_judge.proofs.hints.quiet.Goals as goal

pub returns-in_default-clause-quiet : goal.returns-in_default-clause-quiet
returns-in_default-clause-quiet c =
    let none = none_behind c.args.bytes.now c.quiet_blocks-clear.result c.quiet_rest.result c.quiet_blocks-clear.ensures.none (rw (take_rest c.args.bytes.now c.quiet_blocks-clear.result) at c.quiet_rest.ensures.none) in
    search rules
