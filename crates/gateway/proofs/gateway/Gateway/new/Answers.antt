use Rattle.std.proofs.Common.{rules}
use Rattle.gateway.proofs.Running.{begins_new}
use Rattle.gateway.proofs.Lawful.{law}
use Rattle.gateway.proofs.gateway.Gateway.new.Goals as goal

pub returns-clause-start : goal.returns-clause-start
returns-clause-start g c = search (rules, begins_new)

pub returns-clause-law : goal.returns-clause-law
returns-clause-law g c = law g.row.F.Denot g.F.Family g.F.Family.model g.F.Family.laws
