-- Packets bring channels one by one.
use Rattle.std.proofs.Common.{◌≡◌, ℕ, zero, suc, ◌+◌, ◌/◌, ◌%◌, ◌<◌, Bool, true, false, cond, not, ◌&&◌, ◌||◌, eqb, List, [], ◌∷◌, length, get_or, set, Some, None, count_by, Option, sym, refl, ap, ◌∙◌, ⊎_elim, arith, length-set}
use Rattle.std.specs.Int.{bit_at}
use Rattle.std.specs.List.{range_with_len}
use Rattle.std.proofs.lemmas.Nat.Bits.{bit_at-zero}
use Rattle.std.proofs.lemmas.List.{get_or-set_same, get_or-set_other}
use Rattle.std.proofs.lemmas.List.Sums.{sum_by-cons}
use Rattle.std.proofs.Math.Bool.{or_assoc, or_comm, or-false}
use Rattle.std.proofs.lemmas.Bool.{cases_eq, eq-eqb, ne_eqb}
use Rattle.oxts.specs.declared.format.Format.{Format}
use Rattle.oxts.specs.Formats.{channel_place}
use Rattle.oxts.specs.Status.{is_structure_a}
use Rattle.oxts_record.specs.declared.navigation.Navigation.{Navigation}
use Rattle.oxts_record.specs.declared.snapshot.Snapshot.{Snapshot}
use Rattle.oxts_record.specs.ChannelSets.{has, no_channels, members}
use Rattle.oxts_record.specs.Navigations.{status_in, channel_in, batch_at, channel_taken, with_latest, zero_channels, first_navigation, navigation_after, channel_of}
use Rattle.oxts_record.specs.Snapshots.{snapshot_after}
use Rattle.oxts_record.specs.Heard.{brings, brought, latest_batch, navigation_of, after_all, Heard}
use Rattle.oxts_record.proofs.OneBit.{has_inserted}

-- tests that agree on the numbers counted pass as many of them
count_by_same : (p q : ℕ → Bool) (d a : ℕ) → ((k : ℕ) → k < a + d → p k ≡ q k) → count_by p (range_with_len a d) ≡ count_by q (range_with_len a d)
count_by_same p q zero a same = refl
count_by_same p q (suc d) a same =
    let head : cond {A = ℕ} (p a) 1 0 ≡ cond (q a) 1 0 = ap (λ b. cond {A = ℕ} b 1 0) (same a (omega arith)) in
    let rest : count_by p (range_with_len (a + 1) d) ≡ count_by q (range_with_len (a + 1) d) = count_by_same p q d (a + 1) (λ k h. same k (omega arith)) in
    omega (arith, head, rest, sum_by-cons (λ x. cond (p x) 1 0) a (range_with_len (a + 1) d), sum_by-cons (λ x. cond (q x) 1 0) a (range_with_len (a + 1) d))

zeros : (i : ℕ) → get_or no_channels.words i 0 ≡ 0
zeros zero = refl
zeros (suc zero) = refl
zeros (suc (suc zero)) = refl
zeros (suc (suc (suc zero))) = refl
zeros (suc (suc (suc (suc i)))) = refl

has_none : (c : ℕ) → has no_channels c ≡ false
has_none c = ap (λ w. eqb (bit_at w (c % 64)) 1) (zeros (c / 64)) ∙ ap (λ x. eqb x 1) (bit_at-zero (c % 64))

record Shaped (n : Navigation) : Type 0 where
  pub words : length n.heard.words ≡ 4
  pub channels : length n.channels ≡ 256

shaped_first : Shaped first_navigation
unfolding zero_channels
shaped_first = record { words = refl; channels = refl }

-- what a packet makes of n where the latest snapshot is s, and the tests for structure-A and for status 0 say a and z
abbrev chosen : Format → Navigation → List ℕ → Snapshot → Bool → Bool → Navigation
chosen f n p s a z = cond a (cond z (with_latest s n) (channel_taken f p (with_latest s n))) n

abbrev takes : Format → List ℕ → ℕ → Bool → Bool → Bool
takes f p c a z = a && (not z && eqb c (channel_in f p))

shaped_chosen : (f : Format) (n : Navigation) (p : List ℕ) (s : Snapshot) → Shaped n → (a z : Bool) → Shaped (chosen f n p s a z)
shaped_chosen f n p s sh false z = sh
shaped_chosen f n p s sh true true = record { words = sh.words; channels = sh.channels }
shaped_chosen f n p s sh true false = record { words = simp length-set sh.words; channels = simp length-set sh.channels }

has_chosen : (f : Format) (n : Navigation) (p : List ℕ) (s : Snapshot) (c : ℕ) → Shaped n → c < 256 → (a z : Bool) → has (chosen f n p s a z).heard c ≡ (takes f p c a z || has n.heard c)
has_chosen f n p s c sh hc false z = refl
has_chosen f n p s c sh hc true true = refl
has_chosen f n p s c sh hc true false = has_inserted n.heard.words (channel_in f p) c sh.words hc

-- the bytes at c where h says whether it is heard
abbrev bytes_at : Bool → List (List ℕ) → ℕ → Option (List ℕ)
bytes_at h cs c = cond h (Some (get_or cs c [])) None

-- channel d is heard with its bytes b
bytes_taken : (h : Bool) (cs : List (List ℕ)) (b : List ℕ) (c d : ℕ) → c < length cs → bytes_at (eqb c d || h) (set cs d b) c ≡ cond (eqb c d) (Some b) (bytes_at h cs c)
bytes_taken h cs b c d hc =
    ⊎_elim
    (λ (e : c ≡ d). let here = get_or-set_same cs d b [] (omega arith) in rw (eq-eqb c d e, e, here))
    (λ (e : c ≡ d → ⊥). rw (ne_eqb c d e, get_or-set_other cs d c b [] e))
    (cases_eq c d)

channel_chosen : (f : Format) (n : Navigation) (p : List ℕ) (s : Snapshot) (c : ℕ) → Shaped n → c < 256 → (a z : Bool) → channel_of (chosen f n p s a z) c ≡ cond (takes f p c a z) (Some (batch_at p (channel_place f))) (channel_of n c)
channel_chosen f n p s c sh hc false z = refl
channel_chosen f n p s c sh hc true true = refl
channel_chosen f n p s c sh hc true false =
    let inside : c < length n.channels = omega (arith, sh.channels) in
    ap (λ h. bytes_at h (set n.channels (channel_in f p) (batch_at p (channel_place f))) c) (has_chosen f n p s c sh hc true false)
    ∙ bytes_taken (has n.heard c) n.channels (batch_at p (channel_place f)) c (channel_in f p) inside

shaped_after : (f : Format) (n : Navigation) (p : List ℕ) → Shaped n → Shaped (navigation_after f n p)
shaped_after f n p sh =
    shaped_chosen f n p (snapshot_after (status_in p) n.latest p) sh (is_structure_a (status_in p)) (eqb (status_in p) 0)

has_of : (f : Format) (ps : List (List ℕ)) (n : Navigation) (c : ℕ) → Shaped n → c < 256 → has (navigation_of f n ps).heard c ≡ (has n.heard c || brought f ps c)
has_of f [] n c sh hc = sym (or-false (has n.heard c))
has_of f (p ∷ ps) n c sh hc =
    has_of f ps (navigation_after f n p) c (shaped_after f n p sh) hc
    ∙ ap (λ b. b || brought f ps c) (has_chosen f n p (snapshot_after (status_in p) n.latest p) c sh hc (is_structure_a (status_in p)) (eqb (status_in p) 0))
    ∙ ap (λ b. b || brought f ps c) (or_comm (brings f p c) (has n.heard c)) ∙ or_assoc (has n.heard c) (brings f p c) (brought f ps c)

channel_of_all : (f : Format) (ps : List (List ℕ)) (n : Navigation) (c : ℕ) → Shaped n → c < 256 → channel_of (navigation_of f n ps) c ≡ latest_batch f (channel_of n c) ps c
channel_of_all f [] n c sh hc = refl
channel_of_all f (p ∷ ps) n c sh hc =
    channel_of_all f ps (navigation_after f n p) c (shaped_after f n p sh) hc
    ∙ ap (λ o. latest_batch f o ps c) (channel_chosen f n p (snapshot_after (status_in p) n.latest p) c sh hc (is_structure_a (status_in p)) (eqb (status_in p) 0))

exactly : (f : Format) (ps : List (List ℕ)) (c : ℕ) → c < 256 → has (after_all f ps).heard c ≡ brought f ps c
exactly f ps c hc = has_of f ps first_navigation c shaped_first hc ∙ ap (λ b. b || brought f ps c) (has_none c)

count : (f : Format) (ps : List (List ℕ)) → members (after_all f ps).heard ≡ count_by (brought f ps) (range_with_len 0 256)
unfolding members
count f ps = count_by_same (has (after_all f ps).heard) (brought f ps) 256 0 (λ c hc. exactly f ps c hc)

latest : (f : Format) (ps : List (List ℕ)) (c : ℕ) → c < 256 → channel_of (after_all f ps) c ≡ latest_batch f None ps c
latest f ps c hc =
    channel_of_all f ps first_navigation c shaped_first hc
    ∙ ap (λ h. latest_batch f (bytes_at h zero_channels c) ps c) (has_none c)

pub hearing : (f : Format) → Heard f
hearing f = record { exactly = exactly f; count = count f; latest = latest f }
