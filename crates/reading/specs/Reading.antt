-- The reading of a byte string by a family of packets: a definition over the whole string.
use Rattle.std.specs.Prelude.{◌≡◌, ℕ, zero, suc, ◌+◌, ◌-◌, ◌<◌, ◌≤◌, Bool, true, false, cond, List, [], ◌∷◌, ◌++◌, length, take, drop, replicate, ℤ, pos, ◌==◌, slice_index}
use Rattle.reading.specs.declared.message.Kind.{Kind}
use Rattle.reading.specs.declared.message.Kind.TheVariants.{Inertial, Solution, Status, Passed, Fault as FaultKind}
use Rattle.reading.specs.declared.message.Body.{Body}
use Rattle.reading.specs.declared.message.Defect.{Defect}
use Rattle.reading.specs.declared.message.Message.{Message}
use Rattle.reading.specs.declared.message.Verdict.{Verdict}
use Rattle.reading.specs.declared.message.Verdict.TheVariants.{Wait, Early, Fault, Whole}

-- A family of packets: its longest length, its verdict on the first bytes at a place, its first record, and what the bytes of a whole packet make of a record.
pub record Model (R : Type 0) : Type 0 where
  pub longest : ℕ
  pub judge : List ℕ → Verdict
  pub first : R
  pub absorb : R → List ℕ → R

-- A fault and a whole end a place.
abbrev pub decided : Verdict → Bool
decided Wait = false
decided (Early b) = false
decided (Fault d) = true
decided (Whole b) = true

-- The kinds that a family tells of: a fault is told by the reading alone.
abbrev pub proper : Kind → Bool
proper Inertial = true
proper Solution = true
proper Status = true
proper Passed = true
proper FaultKind = false

abbrev pub Proper : Verdict → Type 0
Proper Wait = Unit {0}
Proper (Early b) = proper b.kind ≡ true
Proper (Fault d) = Unit {0}
Proper (Whole b) = proper b.kind ≡ true

-- None of the prefixes of 1 to n bytes is at fault or whole.
abbrev pub Open : (List ℕ → Verdict) → List ℕ → ℕ → Type 0
Open judge bs n = (i : ℕ) → 1 ≤ i → i ≤ n → decided (judge (take i bs)) ≡ false

-- What a family must show. That a verdict depends on the bytes judged alone is said by its being a function of them.
pub record Laws {R : Type 0} (m : Model R) : Type 0 where
  pub at_least : 1 ≤ m.longest
  pub at_most : m.longest ≤ 264
  -- a message has one of the four kinds of a family
  pub kinds : (bs : List ℕ) → Proper (m.judge bs)
  -- where no shorter prefix was at fault or whole, the prefix of the longest length is one of the two
  pub decides : (bs : List ℕ) (n : ℕ) → suc n ≡ m.longest → length bs ≡ m.longest → Open m.judge bs n → decided (m.judge bs) ≡ true

-- Bytes that begin with `prefix` and are longer, but shorter than r, are judged to wait.
abbrev pub Waits : {R : Type 0} → Model R → List ℕ → ℕ → Type 0
Waits m prefix r = (bs : List ℕ) → take (length prefix) bs ≡ prefix → length prefix < length bs → length bs < r → m.judge bs ≡ Wait

abbrev pub at_fault : Verdict → Bool
at_fault Wait = false
at_fault (Early b) = false
at_fault (Fault d) = true
at_fault (Whole b) = false

-- Each of the first r of `bs` is at fault alone.
abbrev pub Quiet : {R : Type 0} → Model R → List ℕ → ℕ → Type 0
Quiet m bs r = (i : ℕ) → i < r → at_fault (m.judge (slice_index bs i ∷ [])) ≡ true

-- A whole packet: its place in the string, and its bytes.
pub record Packet : Type 0 where
  pub place : ℕ
  pub bytes : List ℕ

-- What was read so far: the messages and the whole packets in their order, the counts, and the record.
pub record Tally (R : Type 0) : Type 0 where
  pub messages : List Message
  pub packets : List Packet
  pub accepted : ℕ
  pub skipped : ℕ
  pub whole : ℕ
  pub passed : ℕ
  pub faults : ℕ
  pub made : R

pub record Reading (R : Type 0) : Type 0 where
  pub tally : Tally R
  pub held : List ℕ

-- the next message: its number is one more than there are, and its place that of the bytes judged
abbrev pub next_message : {R : Type 0} → Tally R → Kind → ℕ → List ℤ → Message
next_message t k c qs =
    record { kind = k; number = length t.messages + 1; place = t.accepted + t.skipped; code = c; quantities = qs }

abbrev pub body_message : {R : Type 0} → Tally R → Body → Message
body_message t b = next_message t b.kind b.code b.quantities

-- a fault as a body of a message
abbrev pub fault_body : Defect → Body
fault_body d = record { kind = FaultKind; code = d.cause; quantities = pos d.found ∷ pos d.expected ∷ replicate 7 (pos 0) }

abbrev pub fault_message : {R : Type 0} → Tally R → Defect → Message
fault_message t d = body_message t (fault_body d)

-- a message early in a packet
abbrev pub told : {R : Type 0} → Body → Tally R → Tally R
told b t = record t { messages = t.messages ++ body_message t b ∷ [] }

-- a fault at n bytes skips one; at 1 byte it makes no message
abbrev pub faulted : {R : Type 0} → ℕ → Defect → Tally R → Tally R
faulted n d t =
    record t {
      messages = t.messages ++ cond (n == 1) [] (fault_message t d ∷ []);
      skipped = t.skipped + 1;
      faults = t.faults + cond (n == 1) 0 1;
    }

-- n faults at 1 byte
abbrev pub passed_over : {R : Type 0} → ℕ → Tally R → Tally R
passed_over n t = record t { skipped = t.skipped + n }

abbrev pub is_passed : Kind → Bool
is_passed Inertial = false
is_passed Solution = false
is_passed Status = false
is_passed Passed = true
is_passed FaultKind = false

-- a whole packet is accepted
abbrev pub completed : {R : Type 0} → Model R → List ℕ → Body → Tally R → Tally R
completed m packet b t =
    record (told b t) {
      packets = t.packets ++ (record { place = t.accepted + t.skipped; bytes = packet }) ∷ [];
      accepted = t.accepted + length packet;
      whole = t.whole + 1;
      passed = t.passed + cond (is_passed b.kind) 1 0;
      made = m.absorb t.made packet;
    }

-- What the verdict v on the prefix of n bytes of `rest` leads to: `more` judges the longer prefixes, and `next` reads on at the next place.
abbrev pub ruled : {R : Type 0} → Model R → (Tally R → Reading R) → (Tally R → List ℕ → Reading R) → Tally R → ℕ → List ℕ → Verdict → Reading R
ruled m more next t n rest Wait = more t
ruled m more next t n rest (Early b) = more (told b t)
ruled m more next t n rest (Fault d) = next (faulted n d t) (drop 1 rest)
ruled m more next t n rest (Whole b) = next (completed m (take n rest) b t) (drop n rest)

-- Judges the prefixes of `rest` that are longer than n, of which there are j. Where none is at fault or whole, `rest` is held.
unfoldable pub judged : {R : Type 0} → Model R → (Tally R → List ℕ → Reading R) → ℕ → Tally R → ℕ → List ℕ → Reading R
judged m next zero t n rest = record { tally = t; held = rest }
judged m next (suc j) t n rest =
    ruled m (λ u. judged m next j u (suc n) rest) next t (suc n) rest (m.judge (take (suc n) rest))

-- Reads `rest`, over at most `places` places.
unfoldable pub read : {R : Type 0} → Model R → ℕ → Tally R → List ℕ → Reading R
read m zero t rest = record { tally = t; held = rest }
read m (suc places) t rest = judged m (read m places) (length rest) t 0 rest

abbrev pub nothing : {R : Type 0} → Model R → Tally R
nothing m = record { messages = []; packets = []; accepted = 0; skipped = 0; whole = 0; passed = 0; faults = 0; made = m.first }

-- The reading of a byte string. Each place takes at least one byte, so there are no more places than bytes.
unfoldable pub reading : {R : Type 0} → Model R → List ℕ → Reading R
reading m bs = read m (length bs) (nothing m) bs

-- Reads on at a place where the prefixes of up to n bytes are judged already.
unfoldable pub resumed : {R : Type 0} → Model R → Tally R → ℕ → List ℕ → Reading R
resumed m t n rest = judged m (read m (length rest)) (length rest - n) t n rest
