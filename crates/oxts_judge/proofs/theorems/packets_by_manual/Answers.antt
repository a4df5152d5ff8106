use Rattle.oxts_judge.proofs.Manual.{accepts_packets}
use Rattle.oxts_judge.proofs.theorems.packets_by_manual.Goals as goal

pub returns : goal.returns
returns g c = record { packets = accepts_packets _ }
