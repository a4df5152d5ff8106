-- The number of each refusal.
use Rattle.std.specs.Prelude.{ℕ}
use Rattle.ports.specs.declared.refusal.OpenRefusal.{OpenRefusal}
use Rattle.ports.specs.declared.refusal.OpenRefusal.TheVariants as opening
use Rattle.ports.specs.declared.refusal.TakeRefusal.{TakeRefusal}
use Rattle.ports.specs.declared.refusal.TakeRefusal.TheVariants as taking
use Rattle.ports.specs.declared.refusal.PortRefusal.{PortRefusal}
use Rattle.ports.specs.declared.refusal.PortRefusal.TheVariants as asking

abbrev pub open_number : OpenRefusal → ℕ
open_number (opening.NoPort port) = 4
open_number (opening.AlreadyOpen port) = 5
open_number (opening.BadKinds wanted) = 6

abbrev pub port_number : PortRefusal → ℕ
port_number (asking.NoPort port) = 4
port_number (asking.NotOpen port) = 7

abbrev pub take_number : TakeRefusal → ℕ
take_number (taking.Port refusal) = port_number refusal
take_number (taking.NothingWaits port) = 8
