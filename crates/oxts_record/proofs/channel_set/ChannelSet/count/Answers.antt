use Rattle.std.proofs.Common.{sym, rules}
use Rattle.oxts_record.proofs.OneBit.{members_is}
use Rattle.oxts_record.proofs.channel_set.ChannelSet.count.Goals as goal

pub returns : goal.returns
returns c = record { value = sym (members_is c.args.self.now (λ i. search rules)) }
