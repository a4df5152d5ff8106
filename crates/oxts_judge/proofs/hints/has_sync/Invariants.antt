use Rattle.std.proofs.Common.{◌≡◌, ◌≤◌, false, length}
use Rattle.oxts_judge.specs.Models.{NoSync}
use Rattle.oxts_judge.proofs.hints.has_sync.Given as goal

abbrev pub invariant-loop-b : goal.invariant-loop-b
invariant-loop-b l = record { within : l.b-index ≤ length l.block; none : l.found ≡ false → NoSync l.block l.b-index }
