use Rattle.std.proofs.Common.{refl, arith}
use Rattle.reader.proofs.Moves.{moves_both, moves_still}
use Rattle.reader.proofs.Feeding.{moves_end}
use Rattle.reader.proofs.Progressing.{left_all, left_both, left_at}
use Rattle.reader.proofs.scan.scan.Goals as goal

pub loop-cursor-init : goal.loop-cursor-init
loop-cursor-init g c =
    record {
      left = left_all c.args.bytes.now;
      some = c.requires.some;
      bounds = c.requires.bounds;
      all = omega arith;
      moves = moves_still g.F.Family.model g.S.Sink.took (λ t. refl);
    }

pub loop-cursor-preserved : goal.loop-cursor-preserved
loop-cursor-preserved g c =
    let before = c.loop-cursor.invariant in
    let done = c.step-cursor.ensures in
    record {
      left = left_both before.left done.left;
      some = c.step-cursor.result.some;
      bounds = done.bounds;
      all = omega arith;
      moves = moves_both g.F.Family.model g.S.Sink.took before.moves done.moves;
    }

pub returns-clause-moves : goal.returns-clause-moves
returns-clause-moves g c =
    let end = c.loop-cursor.invariant in
    rw (left_at end.left) (moves_end g.F.Family.model g.S.Sink.took (omega arith) (omega arith) end.moves)
