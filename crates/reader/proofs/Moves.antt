-- What one verdict does to the ledger, the window and the sink is what it does to the reading.
use Rattle.std.proofs.Common.{◌≡◌, ℕ, ◌+◌, ◌-◌, ◌<◌, ◌≤◌, Bool, true, false, cond, eqb, List, [], ◌∷◌, ◌++◌, length, take, drop, Some, sym, refl, ap, ◌∙◌, append_assoc, add-zero, arith, rules}
use Rattle.std.proofs.lemmas.List.{append-nil, length_push, length-take-le}
use Rattle.reading.specs.declared.message.Body.{Body}
use Rattle.reading.specs.declared.message.Defect.{Defect}
use Rattle.reading.specs.declared.message.Message.{Message}
use Rattle.reading.specs.declared.message.Verdict.TheVariants.{Wait, Early, Fault, Whole}
use Rattle.reader.specs.declared.ledger.Ledger.{Ledger}
use Rattle.reading.specs.Reading.{Model, Tally, told, faulted, completed, body_message, fault_message, passed_over, resumed, Waits}
use Rattle.reader.specs.Ledgers.{message_of, after_telling, after_quiet, fault_body, after_fault, after_packet, latest_of, Agrees, Handed}
use Rattle.reader.specs.Progress.{PassedOver, Moves}
use Rattle.reading.proofs.Steps.{resumed_here}
use Rattle.reading.proofs.Jumps.{jumped, quieted}

latest_push : (xs : List Message) (x : Message) → latest_of (xs ++ x ∷ []) ≡ Some x
latest_push [] x = refl
latest_push (y ∷ []) x = refl
latest_push (y ∷ (z ∷ xs)) x = latest_push (z ∷ xs) x

module _ {R : Type 0} (l : Ledger R) (t : Tally R) (a : Agrees l t) where
  said : (b : Body) → message_of l b ≡ body_message t b
  said b =
      λ i. record { kind = b.kind; number = a.messages i + 1; place = a.accepted i + a.skipped i; code = b.code; quantities = b.quantities }

  said_latest : (b : Body) → Some (message_of l b) ≡ latest_of (t.messages ++ body_message t b ∷ [])
  said_latest b = ap Some (said b) ∙ sym (latest_push t.messages (body_message t b))

  said_number : (b : Body) → l.messages + 1 ≡ length (t.messages ++ body_message t b ∷ [])
  said_number b = ap (λ n. n + 1) a.messages ∙ sym (length_push t.messages (body_message t b))

  agrees_told : (b : Body) → Agrees (after_telling l b) (told b t)
  agrees_told b = let n = said_number b in let x = said_latest b in search rules

  fault_number : (d : Defect) (first : Bool) → l.messages + cond first 0 1 ≡ length (t.messages ++ cond first [] (fault_message t d ∷ []))
  fault_number d true = add-zero l.messages ∙ a.messages ∙ sym (ap length (append-nil t.messages))
  fault_number d false = said_number (fault_body d)

  fault_latest : (d : Defect) (first : Bool) →
      cond first l.latest (Some (message_of l (fault_body d))) ≡ latest_of (t.messages ++ cond first [] (fault_message t d ∷ []))
  fault_latest d true = a.latest ∙ sym (ap latest_of (append-nil t.messages))
  fault_latest d false = said_latest (fault_body d)

  agrees_faulted : (n : ℕ) (d : Defect) → Agrees (after_fault n l d) (faulted n d t)
  agrees_faulted n d =
      let x = fault_number d (eqb n 1) in let y = fault_latest d (eqb n 1) in search rules

  handed_fault : {S : Type 0} (took : S → Message → S → Type 0) (d : Defect) (first : Bool) (s s' : S) → Handed took s (cond first [] (message_of l (fault_body d) ∷ [])) s' →
      Handed took s (cond first [] (fault_message t d ∷ [])) s'
  handed_fault took d true s s' h = h
  handed_fault took d false s s' h = (h.0, rw (said (fault_body d)) at h.1, h.2)

-- a ledger with another record
abbrev pub with_record : {R : Type 0} → Ledger R → R → Ledger R
with_record l r = record l { «record» = r }

agrees_completed : {R : Type 0} (m : Model R) (l : Ledger R) (t : Tally R) (r : R) (n : ℕ) (packet : List ℕ) (b : Body) → Agrees l t → n ≡ length packet → r ≡ m.absorb l.«record» packet →
    Agrees (after_packet n (with_record l r) b) (completed m packet b t)
agrees_completed m l t r n packet b a long made =
    let x = said_number l t a b in let y = said_latest l t a b in search rules

-- a ledger that passed over n bytes
agrees_quiet : {R : Type 0} (l : Ledger R) (t : Tally R) (n : ℕ) → Agrees l t → Agrees (after_quiet n l) (passed_over n t)
agrees_quiet l t n a = search rules

pub handed_both : {S : Type 0} (took : S → Message → S → Type 0) (s : S) (xs : List Message) (v : S) (ys : List Message) (u : S) → Handed took s xs v → Handed took v ys u → Handed took s (xs ++ ys) u
handed_both took s [] v ys u h k = rw h k
handed_both took s (x ∷ xs) v ys u h k = (h.0, h.1, handed_both took h.0 xs v ys u h.2 k)

module _ {R S : Type 0} (m : Model R) (took : S → Message → S → Type 0) where
  -- one step after another
  pub moves_both : {l : Ledger R} {w : List ℕ} {n : ℕ} {s : S} {l₁ : Ledger R} {w₁ : List ℕ} {n₁ : ℕ} {s₁ : S} {l₂ : Ledger R} {w₂ : List ℕ} {n₂ : ℕ} {s₂ : S} →
      Moves m took l w n s l₁ w₁ n₁ s₁ → Moves m took l₁ w₁ n₁ s₁ l₂ w₂ n₂ s₂ → Moves m took l w n s l₂ w₂ n₂ s₂
  moves_both {s = s} {s₁ = s₁} {s₂ = s₂} f g t a =
      let x = f t a in
      let y = g x.now_read x.agrees in
      record {
        now_read = y.now_read;
        agrees = y.agrees;
        same = x.same ∙ y.same;
        news = x.news ++ y.news;
        told = y.told ∙ ap (λ z. z ++ y.news) x.told ∙ append_assoc t.messages x.news y.news;
        handed = handed_both took s x.news s₁ y.news s₂ x.handed y.handed;
      }

  -- the reading goes on behind k prefixes as it does behind n
  pub moves_still : {l : Ledger R} {w : List ℕ} {n k : ℕ} {s : S} → ((t : Tally R) → resumed m t n w ≡ resumed m t k w) → Moves m took l w n s l w k s
  moves_still same t a = record { now_read = t; agrees = a; same = same t; news = []; told = sym (append-nil t.messages); handed = refl }

  -- the lengths up to the next check are judged to wait
  pub moves_waits : {l : Ledger R} {rest : List ℕ} {s : S} (n r : ℕ) → n < r → n ≤ length rest → Waits m (take n rest) r → Moves m took l rest n s l rest (r - 1) s
  moves_waits {rest = rest} n r above within waits = moves_still (λ t. jumped m t n r rest above within waits)

  -- past bytes that are at fault alone, to the first check at the next place
  moves_on : {l : Ledger R} {rest : List ℕ} {s : S} {l' : Ledger R} {rest' : List ℕ} (r : ℕ) → PassedOver m l rest l' rest' → 1 ≤ r → Waits m [] r → Moves m took l rest 0 s l' rest' (r - 1) s
  moves_on {l = l} {rest = rest} {s = s} {l' = l'} {rest' = rest'} r p first waits =
      let over : Moves m took l rest 0 s l' rest' 0 s = λ t a. record {
        now_read = passed_over p.many t;
        agrees = rw p.skipped (agrees_quiet l t p.many a);
        same = quieted m p.many t rest p.within p.quiet ∙ ap (λ x. resumed m (passed_over p.many t) 0 x) (sym p.behind);
        news = [];
        told = sym (append-nil t.messages);
        handed = refl;
      } in
      moves_both over (moves_waits 0 r first (omega arith) waits)

  -- The prefix of `next` bytes is judged, and the work goes on to the next check.
  module _ {l : Ledger R} {rest : List ℕ} {next : ℕ} {s : S} (some : 1 ≤ next) (within : next ≤ length rest) where
    pub stepped_wait : {r : ℕ} → m.judge (take next rest) ≡ Wait → next < r → Waits m (take next rest) r → Moves m took l rest (next - 1) s l rest (r - 1) s
    stepped_wait {r = r} e above waits = moves_both (moves_still (λ t. resumed_here m t next rest Wait some within e)) (moves_waits next r above within waits)

    pub stepped_early : {b : Body} {r : ℕ} {l' : Ledger R} {s' : S} → m.judge (take next rest) ≡ Early b → next < r → Waits m (take next rest) r →
        l' ≡ after_telling l b → took s (message_of l b) s' → Moves m took l rest (next - 1) s l' rest (r - 1) s'
    stepped_early {b = b} {r = r} {l' = l'} {s' = s'} e above waits el h =
        let judged : Moves m took l rest (next - 1) s l' rest next s' = λ t a. record {
          now_read = told b t;
          agrees = rw el (agrees_told l t a b);
          same = resumed_here m t next rest (Early b) some within e;
          news = body_message t b ∷ [];
          told = refl;
          handed = (s', rw (said l t a b) at h, refl);
        } in
        moves_both judged (moves_waits next r above within waits)

    pub stepped_fault : {d : Defect} {l₁ l' : Ledger R} {rest' : List ℕ} {r : ℕ} {s' : S} → m.judge (take next rest) ≡ Fault d → l₁ ≡ after_fault next l d →
        PassedOver m l₁ (drop 1 rest) l' rest' → 1 ≤ r → Waits m [] r →
        Handed took s (cond (eqb next 1) [] (message_of l (fault_body d) ∷ [])) s' → Moves m took l rest (next - 1) s l' rest' (r - 1) s'
    stepped_fault {d = d} {l₁ = l₁} {r = r} {s' = s'} e el p first waits h =
        let judged : Moves m took l rest (next - 1) s l₁ (drop 1 rest) 0 s' = λ t a. record {
          now_read = faulted next d t;
          agrees = rw el (agrees_faulted l t a next d);
          same = resumed_here m t next rest (Fault d) some within e;
          news = cond (eqb next 1) [] (fault_message t d ∷ []);
          told = refl;
          handed = handed_fault l t a took d (eqb next 1) s s' h;
        } in
        moves_both judged (moves_on r p first waits)

    pub stepped_whole : {b : Body} {made : R} {l₁ l' : Ledger R} {rest' : List ℕ} {r : ℕ} {s' : S} → m.judge (take next rest) ≡ Whole b → made ≡ m.absorb l.«record» (take next rest) →
        l₁ ≡ after_packet next (with_record l made) b → PassedOver m l₁ (drop next rest) l' rest' → 1 ≤ r → Waits m [] r →
        took s (message_of l b) s' → Moves m took l rest (next - 1) s l' rest' (r - 1) s'
    stepped_whole {b = b} {made = made} {l₁ = l₁} {r = r} {s' = s'} e makes el p first waits h =
        let packet : List ℕ = take next rest in
        let judged : Moves m took l rest (next - 1) s l₁ (drop next rest) 0 s' = λ t a. record {
          now_read = completed m packet b t;
          agrees = rw el (agrees_completed m l t made next packet b a (sym (length-take-le next rest within)) makes);
          same = resumed_here m t next rest (Whole b) some within e;
          news = body_message t b ∷ [];
          told = refl;
          handed = (s', rw (said l t a b) at h, refl);
        } in
        moves_both judged (moves_on r p first waits)
