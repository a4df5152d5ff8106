-- The messages are numbered, and counts are those of messages by kind; all that each reading keeps.
use Rattle.std.proofs.Common.{◌≡◌, ℕ, suc, ◌+◌, ◌<◌, Bool, true, false, cond, eqb, List, [], ◌∷◌, ◌++◌, length, take, sym, refl, ◌∙◌, subst, arith}
use Rattle.std.proofs.lemmas.List.{append-nil}
use Rattle.std.proofs.lemmas.Bool.{true≢false}
use Rattle.std.proofs.lemmas.List.Sums.{sum_by_push}
use Rattle.reading.specs.declared.message.Kind.{Kind}
use Rattle.reading.specs.declared.message.Kind.TheVariants.{Inertial, Solution, Status, Passed, Fault as FaultKind}
use Rattle.reading.specs.declared.message.Body.{Body}
use Rattle.reading.specs.declared.message.Defect.{Defect}
use Rattle.reading.specs.declared.message.Message.{Message}
use Rattle.reading.specs.declared.message.Verdict.{Verdict}
use Rattle.reading.specs.declared.message.Verdict.TheVariants.{Wait, Early, Fault, Whole}
use Rattle.reading.specs.Reading.{Model, Laws, Tally, body_message, fault_message, reading, proper, Proper, is_passed}
use Rattle.reading.specs.Keeps.{Numbered, is_kind, count_of, is_early, is_last, InTurn, Keeps}
use Rattle.reading.proofs.Steps.{After, Finally, reading_keeps}
use Rattle.reading.proofs.Opens.{held_short}
use Rattle.reading.proofs.Kept.{told_or_not, sound, more_messages}

numbered_push : (k : ℕ) (xs : List Message) (x : Message) → Numbered k xs → x.number ≡ length xs + k → Numbered k (xs ++ x ∷ [])
numbered_push k [] x h e = (omega arith, tt)
numbered_push k (y ∷ xs) x h e = (h.0, numbered_push (k + 1) xs x h.1 (omega arith))

count_push : (k : Kind) (xs : List Message) (x : Message) → count_of k (xs ++ x ∷ []) ≡ count_of k xs + is_kind k x.kind
count_push k xs x = sum_by_push (λ y. is_kind k y.kind) xs x

-- a message of none of the kind k changes no count of them
count_other : (k : Kind) (xs : List Message) (x : Message) → is_kind k x.kind ≡ 0 → count_of k (xs ++ x ∷ []) ≡ count_of k xs
count_other k xs x e = count_push k xs x ∙ omega (arith, e)

no_fault : (k : Kind) → proper k ≡ true → is_kind FaultKind k ≡ 0
no_fault Inertial e = refl
no_fault Solution e = refl
no_fault Status e = refl
no_fault Passed e = refl
no_fault FaultKind e = absurd (true≢false (sym e))

early_other : (k : Kind) → is_early k ≡ true → (is_kind Status k ≡ 0) × (is_kind Passed k ≡ 0)
early_other Inertial e = (refl, refl)
early_other Solution e = (refl, refl)
early_other Status e = absurd (true≢false (sym e))
early_other Passed e = absurd (true≢false (sym e))
early_other FaultKind e = absurd (true≢false (sym e))

last_one : (k : Kind) → is_last k ≡ true → (is_kind Status k + is_kind Passed k ≡ 1) × (cond (is_passed k) 1 0 ≡ is_kind Passed k)
last_one Inertial e = absurd (true≢false (sym e))
last_one Solution e = absurd (true≢false (sym e))
last_one Status e = (refl, refl)
last_one Passed e = (refl, refl)
last_one FaultKind e = absurd (true≢false (sym e))

module _ {R : Type 0} (m : Model R) where
  abbrev Counting : Tally R → ℕ → List ℕ → Type 0
  Counting t n rest = Numbered 1 t.messages

  numbered_keeps : (t : Tally R) (n : ℕ) (rest : List ℕ) (v : Verdict) → n < length rest → m.judge (take (suc n) rest) ≡ v → Counting t n rest → After m Counting t (suc n) rest v
  numbered_keeps t n rest Wait h e o = o
  numbered_keeps t n rest (Early b) h e o = numbered_push 1 t.messages (body_message t b) o refl
  numbered_keeps t n rest (Fault d) h e o = told_or_not (Numbered 1) t.messages (fault_message t d) (eqb (suc n) 1) o (numbered_push 1 t.messages (fault_message t d) o refl)
  numbered_keeps t n rest (Whole b) h e o = numbered_push 1 t.messages (body_message t b) o refl

  abbrev Faulty : Tally R → ℕ → List ℕ → Type 0
  Faulty t n rest = t.faults ≡ count_of FaultKind t.messages

  counted_fault : (t : Tally R) (d : Defect) (first : Bool) → Faulty t 0 [] → t.faults + cond first 0 1 ≡ count_of FaultKind (t.messages ++ cond first [] (fault_message t d ∷ []))
  counted_fault t d true o = rw append-nil (omega arith)
  counted_fault t d false o = rw count_push (omega arith)

  counted_body : (t : Tally R) (b : Body) → proper b.kind ≡ true → Faulty t 0 [] → t.faults ≡ count_of FaultKind (t.messages ++ body_message t b ∷ [])
  counted_body t b p o = o ∙ sym (count_other FaultKind t.messages (body_message t b) (no_fault b.kind p))

  faulty_keeps : Laws m → (t : Tally R) (n : ℕ) (rest : List ℕ) (v : Verdict) → n < length rest → m.judge (take (suc n) rest) ≡ v → Faulty t n rest → After m Faulty t (suc n) rest v
  faulty_keeps laws t n rest Wait h e o = o
  faulty_keeps laws t n rest (Early b) h e o = counted_body t b (subst Proper e (laws.kinds (take (suc n) rest))) o
  faulty_keeps laws t n rest (Fault d) h e o = counted_fault t d (eqb (suc n) 1) o
  faulty_keeps laws t n rest (Whole b) h e o = counted_body t b (subst Proper e (laws.kinds (take (suc n) rest))) o

  -- whole and passed packets, where kinds come in turn
  abbrev Told : ℕ → ℕ → List Message → Type 0
  Told whole passed xs = (whole ≡ count_of Status xs + count_of Passed xs) × (passed ≡ count_of Passed xs)

  abbrev Telling : Tally R → ℕ → List ℕ → Type 0
  Telling t n rest = Told t.whole t.passed t.messages

  -- messages that tell of no packet
  telling_other : (t : Tally R) (x : Message) → is_kind Status x.kind ≡ 0 → is_kind Passed x.kind ≡ 0 → Telling t 0 [] → Told t.whole t.passed (t.messages ++ x ∷ [])
  telling_other t x s p o =
      let es = count_other Status t.messages x s in
      let ep = count_other Passed t.messages x p in
      (omega (arith, o.0), omega (arith, o.1))

  telling_keeps : ((bs : List ℕ) → InTurn (m.judge bs)) → (t : Tally R) (n : ℕ) (rest : List ℕ) (v : Verdict) → n < length rest → m.judge (take (suc n) rest) ≡ v → Telling t n rest → After m Telling t (suc n) rest v
  telling_keeps turn t n rest Wait h e o = o
  telling_keeps turn t n rest (Early b) h e o =
      let k = early_other b.kind (subst InTurn e (turn (take (suc n) rest))) in
      telling_other t (body_message t b) k.0 k.1 o
  telling_keeps turn t n rest (Fault d) h e o = told_or_not (Told t.whole t.passed) t.messages (fault_message t d) (eqb (suc n) 1) o (telling_other t (fault_message t d) refl refl o)
  telling_keeps turn t n rest (Whole b) h e o =
      let k = last_one b.kind (subst InTurn e (turn (take (suc n) rest))) in
      let x = body_message t b in
      let es = count_push Status t.messages x in
      let ep = count_push Passed t.messages x in
      (omega (arith, o.0, k.0), omega (arith, o.1, k.1))

  telling : ((bs : List ℕ) → InTurn (m.judge bs)) → (bs : List ℕ) → Finally Telling (reading m bs)
  telling turn bs = reading_keeps m Telling (telling_keeps turn) bs (refl, refl)

  pub keeps : Laws m → Keeps m
  keeps laws =
      record {
        bytes = λ bs. (sound m bs).total;
        held = λ bs. (sound m bs).at;
        short = held_short m laws;
        grows = more_messages m;
        numbered = λ bs. reading_keeps m Counting numbered_keeps bs tt;
        rising = λ bs. (sound m bs).rising;
        inside = λ bs. (sound m bs).inside;
        found = λ bs. (sound m bs).found;
        behind = λ bs. (sound m bs).behind;
        accepted = λ bs. (sound m bs).accepted;
        whole = λ bs. (sound m bs).whole;
        passed = λ bs. (sound m bs).passed;
        made = λ bs. (sound m bs).made;
        faults = λ bs. reading_keeps m Faulty (faulty_keeps laws) bs refl;
        whole_told = λ turn bs. (telling turn bs).0;
        passed_told = λ turn bs. (telling turn bs).1;
      }
