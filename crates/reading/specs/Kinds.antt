-- The bit of each kind of message.
use Rattle.std.specs.Prelude.{ℕ}
use Rattle.reading.specs.declared.message.Kind.{Kind}
use Rattle.reading.specs.declared.message.Kind.TheVariants.{Inertial, Solution, Status, Passed, Fault}

abbrev pub kind_bit : Kind → ℕ
kind_bit Inertial = 1
kind_bit Solution = 2
kind_bit Status = 4
kind_bit Passed = 8
kind_bit Fault = 16
