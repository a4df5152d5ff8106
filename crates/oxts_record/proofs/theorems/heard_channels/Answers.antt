use Rattle.oxts_record.proofs.Hearing.{hearing}
use Rattle.oxts_record.proofs.theorems.heard_channels.Goals as goal

pub returns : goal.returns
returns c = record { heard = hearing }
