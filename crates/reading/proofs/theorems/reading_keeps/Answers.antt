use Rattle.reading.proofs.Counted.{keeps}
use Rattle.reading.proofs.theorems.reading_keeps.Goals as goal

pub returns : goal.returns
returns g c = record { keeps = keeps g.F.Family.model g.F.Family.laws }
