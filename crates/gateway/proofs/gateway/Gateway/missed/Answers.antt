use Rattle.std.proofs.Common.{rules}
use Rattle.law.proofs.Laws.{asked_row}
use Rattle.gateway.proofs.Running.{goes_port}
use Rattle.gateway.proofs.gateway.Gateway.missed.Goals as goal

pub returns-clause-run : goal.returns-clause-run
returns-clause-run g c h rep = search (rules, goes_port, asked_row)
