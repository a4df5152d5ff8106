-- What is known of a line from which k bytes in all were taken.
use Rattle.std.specs.Prelude.{◌≡◌, ℕ, ◌+◌, List, drop, refl}
use Rattle.std.proofs.Common.{ap, ◌∙◌, add-zero, arith, drop-drop}
use Rattle.line.specs.declared.meter.Meter.{Meter}
use Rattle.line.specs.declared.opener.Opener.{Opener}

-- no take, and one after another
pub record Joins {S : Type 0} (steps : S → ℕ → S → Type 0) : Type 0 where
  pub stays : (s : S) → steps s 0 s
  pub joins : (s t u : S) (j k : ℕ) → steps s j t → steps t k u → steps s (j + k) u

-- a line below from which j bytes were taken
pub record Below {S : Type 0} (waiting : S → List ℕ) (steps : S → ℕ → S → Type 0) (s : S) (j : ℕ) (t : S) : Type 0 where
  pub waits : waiting t ≡ drop j (waiting s)
  pub below : steps s j t

pub below_joins : {S : Type 0} (waiting : S → List ℕ) (steps : S → ℕ → S → Type 0) → Joins steps → Joins (Below waiting steps)
below_joins waiting steps l = record {
  stays = λ s. record { waits = refl; below = l.stays s };
  joins = λ s t u j k p q. record {
    waits = q.waits ∙ ap (drop k) p.waits ∙ drop-drop k j (waiting s);
    below = l.joins s t u j k p.below q.below;
  };
}

-- A meter's credit pays for each byte.
pub record Metered {L : Type 0} (waiting : L → List ℕ) (steps : L → ℕ → L → Type 0) (s : Meter L) (k : ℕ) (t : Meter L) : Type 0 where
  pub paid : t.credit + k ≡ s.credit
  pub below : Below waiting steps s.below k t.below

pub metered_joins : {L : Type 0} (waiting : L → List ℕ) (steps : L → ℕ → L → Type 0) → Joins steps → Joins (Metered waiting steps)
metered_joins waiting steps l =
    let b = below_joins waiting steps l in
    record {
      stays = λ s. record { paid = add-zero s.credit; below = b.stays s.below };
      joins = λ s t u j k p q. record { paid = omega arith; below = b.joins s.below t.below u.below j k p.below q.below };
    }

-- Some bytes were taken below.
pub record Opened {L : Type 0} (waiting : L → List ℕ) (steps : L → ℕ → L → Type 0) (s : Opener L) (k : ℕ) (t : Opener L) : Type 0 where
  pub used : ℕ
  pub below : Below waiting steps s.below used t.below

pub opened_joins : {L : Type 0} (waiting : L → List ℕ) (steps : L → ℕ → L → Type 0) → Joins steps → Joins (Opened waiting steps)
opened_joins waiting steps l =
    let b = below_joins waiting steps l in
    record {
      stays = λ s. record { used = 0; below = b.stays s.below };
      joins = λ s t u j k p q. record { used = p.used + q.used; below = b.joins s.below t.below u.below p.used q.used p.below q.below };
    }

pub further : {L : Type 0} (waiting : L → List ℕ) (steps : L → ℕ → L → Type 0) → Joins steps → (s t u : Opener L) (i k j : ℕ) →
    Opened waiting steps s i t → Below waiting steps t.below j u.below → Opened waiting steps s k u
further waiting steps l s t u i k j p q =
    record { used = p.used + j; below = (below_joins waiting steps l).joins s.below t.below u.below p.used j p.below q }
