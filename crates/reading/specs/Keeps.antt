-- What holds of the reading of every byte string.
use Rattle.std.specs.Prelude.{◌≡◌, ℕ, ◌+◌, ◌<◌, ◌≤◌, Bool, true, false, cond, List, [], ◌∷◌, ◌++◌, length, take, drop, ◌==◌}
use Rattle.std.specs.List.{fold, sum_by}
use Rattle.reading.specs.declared.message.Kind.{Kind}
use Rattle.reading.specs.declared.message.Kind.TheVariants.{Inertial, Solution, Status, Passed, Fault as FaultKind}
use Rattle.reading.specs.declared.message.Body.{Body}
use Rattle.reading.specs.declared.message.Message.{Message}
use Rattle.reading.specs.declared.message.Verdict.{Verdict}
use Rattle.reading.specs.declared.message.Verdict.TheVariants.{Wait, Early, Fault, Whole}
use Rattle.reading.specs.Kinds.{kind_bit}
use Rattle.reading.specs.Reading.{Model, Packet, reading, is_passed}
use Rattle.reading.specs.Rules.{Accepts}

-- P holds of each. From the front, as what is proved of packets goes; the library's `All` goes by place.
abbrev pub Each : {A : Type 0} → (A → Type 0) → List A → Type 0
Each P [] = Unit {0}
Each P (x ∷ xs) = P x × Each P xs

-- The messages are numbered from k on, one by one.
abbrev pub Numbered : ℕ → List Message → Type 0
Numbered k [] = Unit {0}
Numbered k (x ∷ xs) = (x.number ≡ k) × Numbered (k + 1) xs

-- The places of the messages begin at `low` or behind it, never fall, and end at `high` or before it.
abbrev pub Rising : ℕ → List Message → ℕ → Type 0
Rising low [] high = low ≤ high
Rising low (x ∷ xs) high = (low ≤ x.place) × Rising x.place xs high

abbrev pub is_kind : Kind → Kind → ℕ
is_kind k j = cond (kind_bit j == kind_bit k) 1 0

-- how many messages are of the kind k
abbrev pub count_of : Kind → List Message → ℕ
count_of k xs = sum_by (λ x. is_kind k x.kind) xs

-- The packets lie one behind another between `low` and `high`.
abbrev pub Behind : ℕ → List Packet → ℕ → Type 0
Behind low [] high = low ≤ high
Behind low (p ∷ ps) high = (low ≤ p.place) × Behind (p.place + length p.bytes) ps high

-- The packet stands in the string bs at its place, and is accepted there by the rules.
pub record Found {R : Type 0} (m : Model R) (bs : List ℕ) (p : Packet) : Type 0 where
  pub bytes : take (length p.bytes) (drop p.place bs) ≡ p.bytes
  pub body : Body
  pub accepted : Accepts m (drop p.place bs) (length p.bytes) body

abbrev pub total_length : List Packet → ℕ
total_length ps = sum_by (λ p. length p.bytes) ps

-- 1 for a verdict that a packet is whole and passed over, else 0
abbrev pub passes : Verdict → ℕ
passes Wait = 0
passes (Early b) = 0
passes (Fault d) = 0
passes (Whole b) = cond (is_passed b.kind) 1 0

abbrev pub passed_count : {R : Type 0} → Model R → List Packet → ℕ
passed_count m ps = sum_by (λ p. passes (m.judge p.bytes)) ps

-- what packets, in their order, make of a record
abbrev pub record_of : {R : Type 0} → Model R → R → List Packet → R
record_of m r ps = fold (λ x p. m.absorb x p.bytes) r ps

-- Early verdicts tell of inertial or solution quantities, and whole ones of a status or a packet passed over.
abbrev pub is_early : Kind → Bool
is_early Inertial = true
is_early Solution = true
is_early Status = false
is_early Passed = false
is_early FaultKind = false

abbrev pub is_last : Kind → Bool
is_last Inertial = false
is_last Solution = false
is_last Status = true
is_last Passed = true
is_last FaultKind = false

abbrev pub InTurn : Verdict → Type 0
InTurn Wait = Unit {0}
InTurn (Early b) = is_early b.kind ≡ true
InTurn (Fault d) = Unit {0}
InTurn (Whole b) = is_last b.kind ≡ true

pub record Keeps {R : Type 0} (m : Model R) : Type 0 where
  -- every byte is accepted, skipped or held
  pub bytes : (bs : List ℕ) → (reading m bs).tally.accepted + (reading m bs).tally.skipped + length (reading m bs).held ≡ length bs
  -- what is held is the end of the string
  pub held : (bs : List ℕ) → (reading m bs).held ≡ drop ((reading m bs).tally.accepted + (reading m bs).tally.skipped) bs
  -- less is held than the longest packet has
  pub short : (bs : List ℕ) → length (reading m bs).held < m.longest
  -- the messages of a string begin those of a longer one
  pub grows : (bs more : List ℕ) → (ms : List Message) × ((reading m (bs ++ more)).tally.messages ≡ (reading m bs).tally.messages ++ ms)
  -- the messages are numbered from 1 on
  pub numbered : (bs : List ℕ) → Numbered 1 (reading m bs).tally.messages
  -- their places never fall, and lie in the string
  pub rising : (bs : List ℕ) → Rising 0 (reading m bs).tally.messages ((reading m bs).tally.accepted + (reading m bs).tally.skipped)
  pub inside : (bs : List ℕ) → Each (λ x. x.place < length bs) (reading m bs).tally.messages
  -- the packets stand in the string where they say, one behind another, and each was accepted there
  pub found : (bs : List ℕ) → Each (Found m bs) (reading m bs).tally.packets
  pub behind : (bs : List ℕ) → Behind 0 (reading m bs).tally.packets ((reading m bs).tally.accepted + (reading m bs).tally.skipped)
  -- accepted bytes, whole packets, passed packets and record are those of these packets
  pub accepted : (bs : List ℕ) → (reading m bs).tally.accepted ≡ total_length (reading m bs).tally.packets
  pub whole : (bs : List ℕ) → (reading m bs).tally.whole ≡ length (reading m bs).tally.packets
  pub passed : (bs : List ℕ) → (reading m bs).tally.passed ≡ passed_count m (reading m bs).tally.packets
  pub made : (bs : List ℕ) → (reading m bs).tally.made ≡ record_of m m.first (reading m bs).tally.packets
  -- the faults counted are the messages of faults
  pub faults : (bs : List ℕ) → (reading m bs).tally.faults ≡ count_of FaultKind (reading m bs).tally.messages
  -- where kinds come in turn, whole and passed packets are the messages of their kinds
  pub whole_told : ((bs : List ℕ) → InTurn (m.judge bs)) → (bs : List ℕ) →
      (reading m bs).tally.whole ≡ count_of Status (reading m bs).tally.messages + count_of Passed (reading m bs).tally.messages
  pub passed_told : ((bs : List ℕ) → InTurn (m.judge bs)) → (bs : List ℕ) → (reading m bs).tally.passed ≡ count_of Passed (reading m bs).tally.messages
