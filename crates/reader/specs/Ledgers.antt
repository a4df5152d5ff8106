-- A ledger, which is what a reader keeps of what was read: what each verdict makes of it, and when it agrees with a tally.
use Rattle.std.specs.Prelude.{◌≡◌, ℕ, ◌+◌, ◌^◌, ◌<◌, cond, List, [], ◌∷◌, length, None, Some, ◌==◌}
use Rattle.reading.specs.declared.message.Body.{Body}
use Rattle.reading.specs.declared.message.Defect.{Defect}
use Rattle.reading.specs.declared.message.Message.{Message}
use Rattle.reader.specs.declared.ledger.Ledger.{Ledger}
use Rattle.reading.specs.Reading.{Tally, is_passed}
pub use Rattle.reading.specs.Reading.{fault_body}
pub use Rattle.reading.specs.Questions.{latest_of}

-- a new ledger
abbrev pub blank : {R : Type 0} → R → Ledger R
blank first = record { accepted = 0; skipped = 0; whole = 0; passed = 0; faults = 0; messages = 0; latest = None; «record» = first }

abbrev pub message_of : {R : Type 0} → Ledger R → Body → Message
message_of l b =
    record { kind = b.kind; number = l.messages + 1; place = l.accepted + l.skipped; code = b.code; quantities = b.quantities }

abbrev pub after_telling : {R : Type 0} → Ledger R → Body → Ledger R
after_telling l b = record l { messages = l.messages + 1; latest = Some (message_of l b) }

-- n faults at 1 byte
abbrev pub after_quiet : {R : Type 0} → ℕ → Ledger R → Ledger R
after_quiet n l = record l { skipped = l.skipped + n }

-- a fault at n bytes
abbrev pub after_fault : {R : Type 0} → ℕ → Ledger R → Defect → Ledger R
after_fault n l d =
    record l {
      skipped = l.skipped + 1;
      faults = l.faults + cond (n == 1) 0 1;
      messages = l.messages + cond (n == 1) 0 1;
      latest = cond (n == 1) l.latest (Some (message_of l (fault_body d)));
    }

-- a whole packet of n bytes, once its bytes are absorbed
abbrev pub after_packet : {R : Type 0} → ℕ → Ledger R → Body → Ledger R
after_packet n l b =
    record (after_telling l b) { accepted = l.accepted + n; whole = l.whole + 1; passed = l.passed + cond (is_passed b.kind) 1 0 }

pub record Agrees {R : Type 0} (l : Ledger R) (t : Tally R) : Type 0 where
  pub accepted : l.accepted ≡ t.accepted
  pub skipped : l.skipped ≡ t.skipped
  pub whole : l.whole ≡ t.whole
  pub passed : l.passed ≡ t.passed
  pub faults : l.faults ≡ t.faults
  pub messages : l.messages ≡ length t.messages
  pub latest : l.latest ≡ latest_of t.messages
  pub made : l.«record» ≡ t.made

-- A sink s was handed the messages ms, in their order, and is u now.
abbrev pub Handed : {S : Type 0} → (S → Message → S → Type 0) → S → List Message → S → Type 0
Handed took s [] u = s ≡ u
Handed {S} took s (x ∷ xs) u = (v : S) × took s x v × Handed took v xs u

-- How many bytes came, where `left` of them are neither accepted nor skipped.
abbrev pub seen : {R : Type 0} → Ledger R → ℕ → ℕ
seen l left = l.accepted + l.skipped + left

-- One more message has a number, and n more bytes have places.
pub record Room {R : Type 0} (l : Ledger R) (n : ℕ) : Type 0 where
  pub number : l.messages + 1 < 2 ^ 64
  pub place : seen l n < 2 ^ 64
