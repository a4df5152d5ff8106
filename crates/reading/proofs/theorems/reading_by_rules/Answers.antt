use Rattle.reading.proofs.Ruled.{rules}
use Rattle.reading.proofs.theorems.reading_by_rules.Goals as goal

pub returns : goal.returns
returns g c = record { rules = rules g.F.Family.model }
