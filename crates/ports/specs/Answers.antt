-- The results of the ports' calls as the law's answers, and what a refusal says and leaves.
use Rattle.std.specs.Prelude.{◌≡◌, ℕ, Ok, Err, Result}
use Rattle.reading.specs.declared.message.Message.{Message}
use Rattle.law.specs.Calls.{Answer, refused, done, gave, told}
use Rattle.ports.specs.declared.refusal.OpenRefusal.{OpenRefusal}
use Rattle.ports.specs.declared.refusal.OpenRefusal.TheVariants as opening
use Rattle.ports.specs.declared.refusal.TakeRefusal.{TakeRefusal}
use Rattle.ports.specs.declared.refusal.TakeRefusal.TheVariants as taking
use Rattle.ports.specs.declared.refusal.PortRefusal.{PortRefusal}
use Rattle.ports.specs.declared.refusal.PortRefusal.TheVariants as asking
use Rattle.ports.specs.Refusals.{open_number, take_number, port_number}

abbrev pub open_answer : {T : Type 0} → Result T OpenRefusal → Answer
open_answer (Ok u) = done
open_answer (Err e) = refused (open_number e)

abbrev pub take_answer : Result Message TakeRefusal → Answer
take_answer (Ok m) = gave m
take_answer (Err e) = refused (take_number e)

abbrev pub count_answer : Result ℕ PortRefusal → Answer
count_answer (Ok n) = told n
count_answer (Err e) = refused (port_number e)

-- A refusal names the port that was called, or what was wanted.
abbrev pub OpenNames : {T : Type 0} → (port wanted : ℕ) → Result T OpenRefusal → Type 0
OpenNames port wanted (Ok u) = Unit {0}
OpenNames port wanted (Err (opening.NoPort p)) = p ≡ port
OpenNames port wanted (Err (opening.AlreadyOpen p)) = p ≡ port
OpenNames port wanted (Err (opening.BadKinds w)) = w ≡ wanted

abbrev pub NamesPort : (port : ℕ) → PortRefusal → Type 0
NamesPort port (asking.NoPort p) = p ≡ port
NamesPort port (asking.NotOpen p) = p ≡ port

abbrev pub TakeNames : (port : ℕ) → Result Message TakeRefusal → Type 0
TakeNames port (Ok m) = Unit {0}
TakeNames port (Err (taking.Port e)) = NamesPort port e
TakeNames port (Err (taking.NothingWaits p)) = p ≡ port

abbrev pub PortNames : (port : ℕ) → Result ℕ PortRefusal → Type 0
PortNames port (Ok n) = Unit {0}
PortNames port (Err e) = NamesPort port e

-- A refused call leaves what it was called on as it was.
abbrev pub Unchanged : {T E A : Type 0} → Result T E → (before after : A) → Type 0
Unchanged (Ok v) before after = Unit {0}
Unchanged (Err e) before after = after ≡ before
