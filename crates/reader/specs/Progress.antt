-- How the work at a place goes on.
use Rattle.std.specs.Prelude.{◌≡◌, ℕ, ◌+◌, ◌*◌, ◌^◌, ◌≤◌, List, ◌++◌, length, drop}
use Rattle.reading.specs.declared.message.Message.{Message}
use Rattle.reader.specs.declared.ledger.Ledger.{Ledger}
use Rattle.reading.specs.Reading.{Model, Tally, Quiet, resumed}
use Rattle.reader.specs.Ledgers.{Agrees, Handed, after_quiet, seen}

-- What is left of bs behind some of its first bytes.
pub record LeftOf (bs rest : List ℕ) : Type 0 where
  pub before : ℕ
  pub within : before ≤ length bs
  pub behind : rest ≡ drop before bs

-- Some of the first of `rest` are passed over, each of them at fault alone.
pub record PassedOver {R : Type 0} (m : Model R) (l : Ledger R) (rest : List ℕ) (l' : Ledger R) (rest' : List ℕ) : Type 0 where
  pub many : ℕ
  pub within : many ≤ length rest
  pub behind : rest' ≡ drop many rest
  pub quiet : Quiet m rest many
  pub skipped : l' ≡ after_quiet many l

-- From the tally t, with n prefixes of `rest` judged, to n' of rest': the reading that is left is the same, and the sink was handed what was told.
pub record Moved {R S : Type 0} (m : Model R) (took : S → Message → S → Type 0) (t : Tally R) (rest : List ℕ) (n : ℕ) (s : S) (l' : Ledger R) (rest' : List ℕ) (n' : ℕ) (s' : S) : Type 0 where
  pub now_read : Tally R
  pub agrees : Agrees l' now_read
  pub same : resumed m t n rest ≡ resumed m now_read n' rest'
  pub news : List Message
  pub told : now_read.messages ≡ t.messages ++ news
  pub handed : Handed took s news s'

abbrev pub Moves : {R S : Type 0} → Model R → (S → Message → S → Type 0) → Ledger R → List ℕ → ℕ → S → Ledger R → List ℕ → ℕ → S → Type 0
Moves {R} m took l rest n s l' rest' n' s' = (t : Tally R) → Agrees l t → Moved m took t rest n s l' rest' n' s'

-- What bounds the counts where `left` bytes are left, and n of their prefixes are judged.
pub record Bounds {R : Type 0} (l : Ledger R) (left n : ℕ) : Type 0 where
  pub few : seen l left ≤ 2 ^ 40
  pub told : l.messages ≤ 4096 * (l.accepted + l.skipped) + n
  pub told_left : l.messages ≤ 4096 * (l.accepted + l.skipped) + left
  pub whole : l.whole ≤ l.accepted
  pub passes : l.passed ≤ l.whole
  pub faulty : l.faults ≤ l.skipped
  pub fits : left ≤ 4096
