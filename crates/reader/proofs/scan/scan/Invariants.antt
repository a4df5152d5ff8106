use Rattle.std.proofs.Common.{◌≡◌, ◌+◌, ◌-◌, ◌*◌, ◌≤◌, length}
use Rattle.reader.specs.Ledgers.{seen}
use Rattle.reader.specs.Progress.{LeftOf, Moves, Bounds}
use Rattle.reader.proofs.scan.scan.Given as goal

abbrev pub invariant-loop-cursor : goal.invariant-loop-cursor
invariant-loop-cursor g l =
    let rest = l.cursor.0.now in
    let n = l.cursor.1.0 - 1 in
    record {
      left : LeftOf l.bytes rest;
      some : 1 ≤ l.cursor.1.0;
      bounds : Bounds l.ledger (length rest) n;
      all : seen l.ledger (length rest) ≡ seen l.initial.ledger (length l.bytes);
      moves : Moves g.F.Family.model g.S.Sink.took l.initial.ledger l.bytes (l.initial.cursor.1.0 - 1) l.initial.sink l.ledger rest n l.sink;
    }

abbrev pub decreases-loop-cursor : goal.decreases-loop-cursor
decreases-loop-cursor g l = 4098 * length l.cursor.0.now + (4097 - l.cursor.1.0)
