-- Where the bytes, messages and packets of a reading lie in its string, and that messages only grow.
use Rattle.std.proofs.Common.{◌≡◌, ℕ, suc, ◌+◌, ◌-◌, ◌<◌, ◌≤◌, Bool, true, false, cond, eqb, List, [], ◌∷◌, ◌++◌, length, take, drop, sym, refl, ap, ◌∙◌, subst, append_assoc, arith, rules, length-append, length-drop}
use Rattle.std.proofs.lemmas.List.{append-nil, length_push, length-take-le, drop-drop}
use Rattle.std.proofs.lemmas.List.Sums.{sum_by_push, fold-append}
use Rattle.reading.specs.declared.message.Body.{Body}
use Rattle.reading.specs.declared.message.Defect.{Defect}
use Rattle.reading.specs.declared.message.Message.{Message}
use Rattle.reading.specs.declared.message.Verdict.{Verdict}
use Rattle.reading.specs.declared.message.Verdict.TheVariants.{Wait, Early, Fault, Whole}
use Rattle.reading.specs.Reading.{Model, Tally, Packet, told, faulted, completed, body_message, fault_message, reading, is_passed, decided, Open}
use Rattle.reading.specs.Rules.{Accepts}
use Rattle.reading.specs.Keeps.{Each, Rising, Behind, Found, total_length, passes, passed_count, record_of}
use Rattle.reading.proofs.Opens.{open_more, open_none}
use Rattle.reading.proofs.Steps.{After, Finally, reading_keeps, resumed_keeps, reading_more}

each_push : {A : Type 0} (P : A → Type 0) (xs : List A) (x : A) → Each P xs → P x → Each P (xs ++ x ∷ [])
each_push P [] x h p = (p, tt)
each_push P (y ∷ xs) x h p = (h.0, each_push P xs x h.1 p)

rising_push : (low : ℕ) (xs : List Message) (x : Message) (high : ℕ) → Rising low xs x.place → x.place ≤ high → Rising low (xs ++ x ∷ []) high
rising_push low [] x high h l = (h, l)
rising_push low (y ∷ xs) x high h l = (h.0, rising_push y.place xs x high h.1 l)

rising_more : (low : ℕ) (xs : List Message) (high further : ℕ) → Rising low xs high → high ≤ further → Rising low xs further
rising_more low [] high further h l = omega arith
rising_more low (y ∷ xs) high further h l = (h.0, rising_more y.place xs high further h.1 l)

behind_push : (low : ℕ) (ps : List Packet) (p : Packet) (high : ℕ) → Behind low ps p.place → p.place + length p.bytes ≤ high → Behind low (ps ++ p ∷ []) high
behind_push low [] p high h l = (h, l)
behind_push low (q ∷ ps) p high h l = (h.0, behind_push (q.place + length q.bytes) ps p high h.1 l)

behind_more : (low : ℕ) (ps : List Packet) (high further : ℕ) → Behind low ps high → high ≤ further → Behind low ps further
behind_more low [] high further h l = omega arith
behind_more low (q ∷ ps) high further h l = (h.0, behind_more (q.place + length q.bytes) ps high further h.1 l)

-- what holds of messages with and without one more
pub told_or_not : (P : List Message → Type 0) (xs : List Message) (x : Message) (first : Bool) → P xs → P (xs ++ x ∷ []) → P (xs ++ cond first [] (x ∷ []))
told_or_not P xs x true without with_one = rw append-nil without
told_or_not P xs x false without with_one = with_one

module _ {R : Type 0} (m : Model R) where
  -- Where t was read of bs and `rest` is left.
  pub record Sound (bs : List ℕ) (t : Tally R) (n : ℕ) (rest : List ℕ) : Type 0 where
    pub at : rest ≡ drop (t.accepted + t.skipped) bs
    pub before : Open m.judge rest n
    pub total : t.accepted + t.skipped + length rest ≡ length bs
    pub rising : Rising 0 t.messages (t.accepted + t.skipped)
    pub inside : Each (λ x. x.place < length bs) t.messages
    pub found : Each (Found m bs) t.packets
    pub behind : Behind 0 t.packets (t.accepted + t.skipped)
    pub accepted : t.accepted ≡ total_length t.packets
    pub whole : t.whole ≡ length t.packets
    pub passed : t.passed ≡ passed_count m t.packets
    pub made : t.made ≡ record_of m m.first t.packets

  module _ (bs : List ℕ) (t : Tally R) (n : ℕ) (rest : List ℕ) (h : n < length rest) (s : Sound bs t n rest) where
    sound_early : (b : Body) → m.judge (take (suc n) rest) ≡ Early b → Sound bs (told b t) (suc n) rest
    sound_early b e =
        let before = open_more m rest n s.before (ap decided e) in
        let rising = rising_push 0 t.messages (body_message t b) (t.accepted + t.skipped) s.rising (omega arith) in
        let inside = each_push (λ x. x.place < length bs) t.messages (body_message t b) s.inside (omega (arith, s.total)) in
        search rules

    further : (k : ℕ) → drop k rest ≡ drop (t.accepted + t.skipped + k) bs
    further k = ap (drop k) s.at ∙ drop-drop k (t.accepted + t.skipped) bs

    sound_fault : (d : Defect) → Sound bs (faulted (suc n) d t) 0 (drop 1 rest)
    sound_fault d =
        let place = t.accepted + t.skipped in
        let next = t.accepted + (t.skipped + 1) in
        let x = fault_message t d in
        let first = eqb (suc n) 1 in
        let same : place + 1 ≡ next = omega arith in
        let at = further 1 ∙ ap (λ k. drop k bs) same in
        let before = open_none m (drop 1 rest) in
        let total : next + length (drop 1 rest) ≡ length bs = simp length-drop (omega (arith, s.total)) in
        let rising = told_or_not (λ xs. Rising 0 xs next) t.messages x first (rising_more 0 t.messages place next s.rising (omega arith)) (rising_push 0 t.messages x next s.rising (omega arith)) in
        let inside = told_or_not (Each (λ y. y.place < length bs)) t.messages x first s.inside (each_push (λ y. y.place < length bs) t.messages x s.inside (omega (arith, s.total))) in
        let behind = behind_more 0 t.packets place next s.behind (omega arith) in
        search rules

    accepted_here : (b : Body) → m.judge (take (suc n) rest) ≡ Whole b → Accepts m (drop (t.accepted + t.skipped) bs) (length (take (suc n) rest)) b
    accepted_here b e =
        let size : suc n ≡ length (take (suc n) rest) = sym (length-take-le (suc n) rest h) in
        let same : suc n - 1 ≡ n = omega arith in
        subst (λ xs. Accepts m xs (length (take (suc n) rest)) b) s.at
        (subst (λ k. Accepts m rest k b) size (record { some = omega arith; within = h; before = rw same s.before; here = e }))

    sound_whole : (b : Body) → m.judge (take (suc n) rest) ≡ Whole b → Sound bs (completed m (take (suc n) rest) b t) 0 (drop (suc n) rest)
    sound_whole b e =
        let bytes : List ℕ = take (suc n) rest in
        let place = t.accepted + t.skipped in
        let packet : Packet = record { place = place; bytes = bytes } in
        let size : length bytes ≡ suc n = length-take-le (suc n) rest h in
        let same : place + suc n ≡ t.accepted + length bytes + t.skipped = omega arith in
        let stands : take (length bytes) (drop place bs) ≡ bytes = ap (λ k. take k (drop place bs)) size ∙ ap (take (suc n)) (sym s.at) in
        record {
          at = further (suc n) ∙ ap (λ k. drop k bs) same;
          before = open_none m (drop (suc n) rest);
          total = simp length-drop (omega (arith, s.total));
          rising = rising_push 0 t.messages (body_message t b) (t.accepted + length bytes + t.skipped) s.rising (omega arith);
          inside = each_push (λ x. x.place < length bs) t.messages (body_message t b) s.inside (omega (arith, s.total));
          found = each_push (Found m bs) t.packets packet s.found (record { bytes = stands; body = b; accepted = accepted_here b e });
          behind = behind_push 0 t.packets packet (t.accepted + length bytes + t.skipped) s.behind (omega arith);
          accepted = ap (λ k. k + length bytes) s.accepted ∙ sym (sum_by_push (λ p. length p.bytes) t.packets packet);
          whole = ap (λ k. k + 1) s.whole ∙ sym (length_push t.packets packet);
          passed = ap (λ k. k + cond (is_passed b.kind) 1 0) s.passed ∙ ap (λ v. passed_count m t.packets + passes v) (sym e) ∙ sym (sum_by_push (λ p. passes (m.judge p.bytes)) t.packets packet);
          made = ap (λ r. m.absorb r bytes) s.made ∙ sym (fold-append (λ r p. m.absorb r p.bytes) m.first t.packets (packet ∷ []));
        }

  sound_keeps : (bs : List ℕ) (t : Tally R) (n : ℕ) (rest : List ℕ) (v : Verdict) → n < length rest → m.judge (take (suc n) rest) ≡ v → Sound bs t n rest → After m (Sound bs) t (suc n) rest v
  sound_keeps bs t n rest Wait h e s = let before = open_more m rest n s.before (ap decided e) in search rules
  sound_keeps bs t n rest (Early b) h e s = sound_early bs t n rest h s b e
  sound_keeps bs t n rest (Fault d) h e s = sound_fault bs t n rest h s d
  sound_keeps bs t n rest (Whole b) h e s = sound_whole bs t n rest h s b e

  pub sound : (bs : List ℕ) → Finally (Sound bs) (reading m bs)
  sound bs =
      reading_keeps m (Sound bs) (sound_keeps bs) bs
      (record { at = refl; before = open_none m bs; total = omega arith; rising = omega arith; inside = tt; found = tt; behind = omega arith; accepted = refl; whole = refl; passed = refl; made = refl })

  -- the messages only grow
  abbrev Grown : List Message → Tally R → ℕ → List ℕ → Type 0
  Grown old t n rest = (ms : List Message) × (t.messages ≡ old ++ ms)

  grown : (old : List Message) (ms : List Message) (t : Tally R) (new : List Message) → t.messages ≡ old ++ ms → t.messages ++ new ≡ old ++ (ms ++ new)
  grown old ms t new e = ap (λ x. x ++ new) e ∙ append_assoc old ms new

  grows : (old : List Message) (t : Tally R) (n : ℕ) (rest : List ℕ) (v : Verdict) → n < length rest → m.judge (take (suc n) rest) ≡ v → Grown old t n rest → After m (Grown old) t (suc n) rest v
  grows old t n rest Wait h e o = o
  grows old t n rest (Early b) h e o = (_, grown old o.0 t _ o.1)
  grows old t n rest (Fault d) h e o = (_, grown old o.0 t _ o.1)
  grows old t n rest (Whole b) h e o = (_, grown old o.0 t _ o.1)

  pub more_messages : (bs more : List ℕ) → (ms : List Message) × ((reading m (bs ++ more)).tally.messages ≡ (reading m bs).tally.messages ++ ms)
  more_messages bs more =
      let r = reading m bs in
      let old = r.tally.messages in
      let on = resumed_keeps m (Grown old) (grows old) r.tally (length r.held) (r.held ++ more) (simp length-append (omega arith)) ([], sym (append-nil old)) in
      (on.0, ap (λ x. x.tally.messages) (reading_more m bs more) ∙ on.1)
