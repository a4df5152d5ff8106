-- What callers know of their own runs.
use Rattle.std.specs.Prelude.{ℕ, min, List, length, drop}
use Rattle.reading.specs.declared.family.Family.{Ghosts}
use Rattle.reading.specs.Reading.{Model}
use Rattle.law.specs.Calls.{Answer, done, passed, Pump, At, Open, Take, pump_answer}
use Rattle.law.specs.Runs.{History, start, called, pumped}
use Rattle.gateway.specs.declared.gateway.Gateway.{Gateway}
use Rattle.gateway.specs.Law.{RunLaw}
use Rattle.gateway.specs.Standing.{Represents}

-- The law holds of the run that opens port 0 for all kinds, pumps 64 bytes and takes, with this answer.
abbrev pub FirstTake : {F R : Type 0} → Ghosts F R → List ℕ → Answer → Type 0
FirstTake {F} G bytes a =
    RunLaw F G G.model (called (called (called start (At 0 (Open 31)) done) (Pump 64 bytes) (passed (min 64 (length bytes)) (drop (min 64 (length bytes)) bytes))) (At 0 Take) a)

-- A pump and a take go on with any run.
abbrev pub Relayed : {F R : Type 0} {G : Ghosts F R} → Model R → Gateway F R G → List ℕ → ℕ → Answer → Gateway F R G → Type 0
Relayed {F} {R} model g waits port a g' =
    (h : History R) → Represents model g h → Represents model g' (called (called h (Pump 64 waits) (pump_answer (length (pumped h)) 64 waits)) (At port Take) a)

-- Behind a first grant of 5, a second one of 100 lets through as many as are left.
abbrev pub second_grant : List ℕ → ℕ
second_grant bytes = min 100 (length (drop 5 bytes))
