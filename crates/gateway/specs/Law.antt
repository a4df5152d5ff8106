-- The law of a gateway: what holds after every list of calls and questions of a new gateway.
use Rattle.std.specs.Prelude.{◌≡◌, ℕ, ◌+◌, ◌<◌, ◌≤◌, List, length}
use Rattle.reading.specs.declared.family.Family.{Ghosts}
use Rattle.reading.specs.Reading.{Model, reading}
use Rattle.law.specs.Calls.{Call, Pump, At, PortCall, Missed, Answer, refused, Question, Shown, shown_of, ports, most_bytes}
use Rattle.law.specs.Runs.{History, called, questioned, pumped}
use Rattle.law.specs.Laws.{PumpLaw, PortLaw, asked, answered}
use Rattle.ports.specs.Ports.{slots_of}
use Rattle.gateway.specs.declared.gateway.Gateway.{Gateway}
use Rattle.gateway.specs.Standing.{Represents, showing}

-- h is the history of a gateway of the family F.
abbrev pub Run : (F : Type 0) {R : Type 0} → Ghosts F R → Model R → History R → Type 0
Run F {R} G model h = (g : Gateway F R G) × Represents model g h

-- Two gateways that no call or question can tell apart.
pub record Same {F R : Type 0} {G : Ghosts F R} (g g' : Gateway F R G) : Type 0 where
  pub shows : (q : Question) → showing g' q ≡ showing g q
  pub slots : slots_of g'.bank ≡ slots_of g.bank

-- What holds of a gateway of the family F whose calls and questions so far, with their answers, are the history h.
pub record RunLaw (F : Type 0) {R : Type 0} (G : Ghosts F R) (model : Model R) (h : History R) : Type 0 where
  -- Counts, latest message and record are those of the reading of all bytes that the pumps passed, joined.
  pub reads : (g : Gateway F R G) → Represents model g h → (q : Question) → showing g q ≡ shown_of model (pumped h) q
  pub shown : (q : Question) (s : Shown R) → Run F G model (questioned h q s) → s ≡ shown_of model (pumped h) q
  -- Every byte is accepted, skipped or held, and less is held than the longest packet has; 2 ^ 40 bytes are the most.
  pub bytes : (reading model (pumped h)).tally.accepted + (reading model (pumped h)).tally.skipped + length (reading model (pumped h)).held ≡ length (pumped h)
  pub short : length (reading model (pumped h)).held < model.longest
  pub few : length (pumped h) ≤ most_bytes
  -- A pump is refused for its limit or for want of room, and else passes the smaller of its limit and what waits; the line keeps the rest.
  pub pump : (limit : ℕ) (waits : List ℕ) (a : Answer) → Run F G model (called h (Pump limit waits) a) → PumpLaw (length (pumped h)) limit waits a
  -- What came to a port was given, waits or was missed, and the port's answers tell of that.
  pub port : (p : ℕ) → p < ports → PortLaw model (Run F G model) h p
  pub no_port : (p : ℕ) (c : PortCall) (a : Answer) → ports ≤ p → Run F G model (called h (At p c) a) → a ≡ refused 4
  -- A refused call and a question change nothing.
  pub refused_still : (g g' : Gateway F R G) (c : Call) (n : ℕ) → Represents model g h → Represents model g' (called h c (refused n)) → Same g g'
  pub missed_still : (g g' : Gateway F R G) (p : ℕ) (a : Answer) → Represents model g h → Represents model g' (called h (At p Missed) a) → Same g g'
  pub shown_still : (g g' : Gateway F R G) (q : Question) (s : Shown R) → Represents model g h → Represents model g' (questioned h q s) → Same g g'
  -- Another run with the same calls of a port, each after the same pumped bytes, has the same answers of that port.
  pub alike : (p : ℕ) (h' : History R) → Run F G model h' → asked p h' ≡ asked p h → answered p h' ≡ answered p h

-- The law of every run of a gateway of the family F.
abbrev pub Law : (F : Type 0) {R : Type 0} → Ghosts F R → Model R → Type 0
Law F {R} G model = (h : History R) → Run F G model h → RunLaw F G model h
