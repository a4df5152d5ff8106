use Rattle.std.proofs.Common.{rules}
use Rattle.gateway.proofs.Running.{goes_port}
use Rattle.gateway.proofs.gateway.Gateway.close.Goals as goal

pub returns-clause-run : goal.returns-clause-run
returns-clause-run g c h rep = search (rules, goes_port)
