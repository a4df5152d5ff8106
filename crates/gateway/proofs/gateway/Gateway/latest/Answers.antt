use Rattle.std.proofs.Common.{rules}
use Rattle.law.specs.Runs.{pumped}
use Rattle.gateway.proofs.Running.{goes_asked}
use Rattle.gateway.proofs.gateway.Gateway.latest.Goals as goal

pub returns : goal.returns
returns g c = record { shows = λ h rep. search (rules, goes_asked, c.latest.ensures.latest (pumped h) rep.reads) }
