-- The number of each cause of a fault.
use Rattle.std.specs.Prelude.{ℕ}
use Rattle.oxts_judge.specs.declared.cause.Cause.{Cause}
use Rattle.oxts_judge.specs.declared.cause.Cause.TheVariants.{Sync, Status, InertialSum, SolutionSum, PacketSum}

abbrev pub cause_number : Cause → ℕ
cause_number Sync = 0
cause_number Status = 1
cause_number InertialSum = 2
cause_number SolutionSum = 3
cause_number PacketSum = 4
