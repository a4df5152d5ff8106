use Rattle.std.proofs.Common.{◌≡◌, ℕ, ◌+◌, List, ◌++◌, length}
use Rattle.std.specs.Slice.Iter.{chunks_rest, chunks_size}
use Rattle.reader.specs.Standing.{Ran}
use Rattle.reader.proofs.reader.Reader.feed.Given as goal

abbrev pub invariant-loop-block : goal.invariant-loop-block
invariant-loop-block g l =
    let left = chunks_rest l.block-iterator in
    record {
      can_next : (goal.iterator-loop-block g).can_next l.block-iterator;
      is_finite : (goal.iterator-loop-block g).is_finite l.block-iterator;
      size : chunks_size l.block-iterator ≡ 3832;
      pumped : l.self.pumped + length left ≡ l.initial.self.pumped + length l.bytes;
      ran : (xs : List ℕ) × (xs ++ left ≡ l.bytes) × Ran g.F.Family.model g.S.Sink.took l.initial.self l.initial.sink xs l.self l.sink;
    }
