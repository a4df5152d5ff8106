use Rattle.std.proofs.Common.{rules}
use Rattle.ports.proofs.Brought.{reached_more, reached_room}
use Rattle.ports.proofs.bank.bring.Goals as goal

pub loop-port-preserved : goal.loop-port-preserved
loop-port-preserved c room =
    let so = c.loop-port.invariant room in
    reached_more so _ c.arrive.new.self (search rules) (c.arrive.ensures.after (reached_room so _ (search rules) room))
