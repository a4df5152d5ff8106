use Rattle.std.proofs.Common.{◌≡◌, ◌≤◌, length, drop}
use Rattle.std.specs.Slice.Iter.{chunks_exact_rest, chunks_exact_size}
use Rattle.oxts_judge.specs.Models.{NoSync}
use Rattle.oxts_judge.proofs.hints.quiet_blocks.Given as goal

abbrev pub invariant-loop-block : goal.invariant-loop-block
invariant-loop-block l =
    record { rest : chunks_exact_rest l.block-iterator ≡ drop l.n l.bytes; size : chunks_exact_size l.block-iterator ≡ 16; within : l.n ≤ length l.bytes; none : NoSync l.bytes l.n }
