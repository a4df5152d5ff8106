-- One step after another, and what a byte more does.
use Rattle.std.proofs.Common.{◌≡◌, ℕ, ◌-◌, ◌<◌, ◌≤◌, List, [], ◌++◌, length, drop, sym, refl, ap, ◌∙◌, subst, append_assoc, arith, length-append, length-drop}
use Rattle.std.proofs.lemmas.List.{append-nil, length-take-le, take_at}
use Rattle.reading.specs.declared.family.Family.{Ghosts}
use Rattle.reading.specs.declared.message.Message.{Message}
use Rattle.reader.specs.declared.ledger.Ledger.{Ledger}
use Rattle.reader.specs.declared.window.Window.{Window}
use Rattle.reader.specs.declared.reader.Reader.{Reader}
use Rattle.reading.specs.Reading.{Model, Laws, reading, resumed, Waits}
use Rattle.reader.specs.Held.{bytes}
use Rattle.reader.specs.Ledgers.{Agrees}
use Rattle.reader.specs.Progress.{Moved, Moves}
use Rattle.reader.specs.Standing.{News, Ran}
use Rattle.reading.proofs.Steps.{stop, resumed_ends, reading_more}
use Rattle.reader.proofs.Moves.{handed_both, moves_both, moves_still, moves_waits}
use Rattle.reading.proofs.Opens.{held_short}

-- a window holds as many bytes as it says
pub long : (w : Window) → length (bytes w) ≡ w.held
long w = length-take-le w.held w.buffer (omega (arith, w.full, w.few))

module _ {R S : Type 0} (m : Model R) (took : S → Message → S → Type 0) where
  -- all that is left is judged
  pub moves_end : {l : Ledger R} {w : List ℕ} {n : ℕ} {s : S} {l' : Ledger R} {w' : List ℕ} {n' k : ℕ} {s' : S} → length w' ≤ n' → length w' ≤ k →
      Moves m took l w n s l' w' n' s' → Moves m took l w n s l' w' k s'
  moves_end {w' = w'} {n' = n'} {k = k} h h' f = moves_both m took f (moves_still m took (λ t. resumed_ends m t n' w' h ∙ sym (resumed_ends m t k w' h')))

  -- A ledger and the bytes held that are those of the reading of bs, once xs are behind those bytes and all is judged.
  module _ (bs xs : List ℕ) {held rest : List ℕ} {l l' : Ledger R} {k : ℕ} {s s' : S}
      (agrees : Agrees l (reading m bs).tally) (holds : held ≡ (reading m bs).held) (ended : length rest ≤ k) (moves : Moves m took l (held ++ xs) (length held) s l' rest k s') where
    abbrev moved : Moved m took (reading m bs).tally (held ++ xs) (length held) s l' rest k s'
    moved = moves (reading m bs).tally agrees

    -- the reading of bs ++ xs stops there
    pub read_on : reading m (bs ++ xs) ≡ stop moved.now_read rest
    read_on =
        reading_more m bs xs ∙ ap (λ z. resumed m (reading m bs).tally (length z) (z ++ xs)) (sym holds) ∙ moved.same ∙ resumed_ends m moved.now_read k rest ended

    -- so the bytes held, the ledger and what was told are its
    pub read_apart : (rest ≡ (reading m (bs ++ xs)).held) × Agrees l' (reading m (bs ++ xs)).tally × News m bs (bs ++ xs) took s s'
    read_apart = (
      sym (ap (λ r. r.held) read_on),
      subst (λ r. Agrees l' r.tally) (sym read_on) moved.agrees,
      record { messages = moved.news; beyond = ap (λ r. r.tally.messages) read_on ∙ moved.told; handed = moved.handed },
    )

  -- What a block does to a reader that holds `held`: w₁ is the window behind which the block stands, w₂ and l₁ are what the scan leaves, and w₃ and l₃ are the same where less is left than the longest packet has.
  module _ (laws : Laws m) (w₁ : Window) {w₂ w₃ : Window} {l l₁ l₃ : Ledger R} (xs : List ℕ) {held all : List ℕ} {next left : ℕ} {s s' : S}
      (joined : bytes w₁ ≡ held ++ xs) (is_all : all ≡ bytes w₁) (above : length held < next) (waits : Waits m held next) (within : left ≤ length all)
      (moves : Moves m took l all (next - 1) s l₁ (drop (length all - left) all) left s')
      (cut : bytes w₂ ≡ drop (w₁.held - left) (bytes w₁)) (size : w₂.held ≡ left) (kept : w₂.held < 264 → (w₃ ≡ w₂) × (l₃ ≡ l₁)) where
    is_rest : drop (length all - left) all ≡ bytes w₂
    is_rest = rw (is_all, long w₁) (sym cut)

    from_held : Moves m took l (held ++ xs) (length held) s l₁ (bytes w₂) left s'
    from_held =
        let front = take_at held xs (length held) refl in
        let sum = length-append held xs in
        moves_both m took (moves_waits m took (length held) next above (omega arith) (rw front waits))
        (subst (λ z. Moves m took l z (next - 1) s l₁ (bytes w₂) left s') (is_all ∙ joined) (rw is_rest at moves))

    pub taken : (bs : List ℕ) → held ≡ (reading m bs).held → Agrees l (reading m bs).tally →
        (bytes w₃ ≡ (reading m (bs ++ xs)).held) × Agrees l₃ (reading m (bs ++ xs)).tally × News m bs (bs ++ xs) took s s'
    taken bs holds agrees =
        let rest_long : length (bytes w₂) ≡ left = ap length (sym is_rest) ∙ simp length-drop (omega arith) in
        let end : length (bytes w₂) ≤ left = omega arith in
        let done = read_apart bs xs agrees holds end from_held in
        let same = kept (omega (arith, ap length done.0, held_short m laws (bs ++ xs), laws.at_most)) in
        (ap bytes same.0 ∙ done.0, rw same.1 done.1, done.2)

module _ {F R S : Type 0} {G : Ghosts F R} (m : Model R) (took : S → Message → S → Type 0) where
  pub ran_none : (r : Reader F R G) (s : S) → Ran m took r s [] r s
  ran_none r s bs st =
      let e = append-nil bs in
      (rw e st, record { messages = []; beyond = rw e (sym (append-nil (reading m bs).tally.messages)); handed = refl })

  pub ran_both : (r : Reader F R G) (s : S) (xs : List ℕ) (r₁ : Reader F R G) (s₁ : S) (ys : List ℕ) (r₂ : Reader F R G) (s₂ : S) → Ran m took r s xs r₁ s₁ → Ran m took r₁ s₁ ys r₂ s₂ → Ran m took r s (xs ++ ys) r₂ s₂
  ran_both r s xs r₁ s₁ ys r₂ s₂ f g bs st =
      let x = f bs st in
      let y = g (bs ++ xs) x.0 in
      let e = append_assoc bs xs ys in (
        rw e at y.0,
        record {
          messages = x.1.messages ++ y.1.messages;
          beyond = ap (λ z. (reading m z).tally.messages) (sym e) ∙ y.1.beyond ∙ ap (λ z. z ++ y.1.messages) x.1.beyond ∙ append_assoc (reading m bs).tally.messages x.1.messages y.1.messages;
          handed = handed_both took s x.1.messages s₁ y.1.messages s₂ x.1.handed y.1.handed;
        },
      )
