use Rattle.std.proofs.Common.{◌%◌, arith, rules}
use Rattle.std.proofs.lemmas.Nat.{one_shl}
use Rattle.oxts_record.proofs.OneBit.{has_inserted}
use Rattle.oxts_record.proofs.channel_set.ChannelSet.insert.Goals as goal

pub returns-clause-members : goal.returns-clause-members
returns-clause-members c k hk =
    rw (c.from.ensures, one_shl (c.args.channel % 64) 64 (omega arith)) (has_inserted c.args.self.now.words c.args.channel k (search rules) hk)
