-- Which channels are heard after packets, and which bytes they have.
use Rattle.std.specs.Prelude.{◌≡◌, ℕ, ◌<◌, Bool, false, cond, not, ◌&&◌, ◌||◌, List, [], ◌∷◌, Some, None, count_by, Option, ◌==◌}
use Rattle.std.specs.List.{range_with_len}
use Rattle.oxts.specs.declared.format.Format.{Format}
use Rattle.oxts.specs.Formats.{channel_place}
use Rattle.oxts.specs.Status.{is_structure_a}
use Rattle.oxts_record.specs.declared.navigation.Navigation.{Navigation}
use Rattle.oxts_record.specs.ChannelSets.{has, members}
use Rattle.oxts_record.specs.Navigations.{status_in, channel_in, batch_at, first_navigation, navigation_after, channel_of}

-- The packet p is structure-A, its status is not 0, and its channel is c.
abbrev pub brings : Format → List ℕ → ℕ → Bool
brings f p c = is_structure_a (status_in p) && (not (status_in p == 0) && c == channel_in f p)

-- Some packet of ps brings c.
abbrev pub brought : Format → List (List ℕ) → ℕ → Bool
brought f [] c = false
brought f (p ∷ ps) c = brings f p c || brought f ps c

-- the eight bytes of the last packet of ps that brings c; `before` where none does
abbrev pub latest_batch : Format → Option (List ℕ) → List (List ℕ) → ℕ → Option (List ℕ)
latest_batch f before [] c = before
latest_batch f before (p ∷ ps) c =
    latest_batch f (cond (brings f p c) (Some (batch_at p (channel_place f))) before) ps c

-- what packets, in their order, make of n
abbrev pub navigation_of : Format → Navigation → List (List ℕ) → Navigation
navigation_of f n [] = n
navigation_of f n (p ∷ ps) = navigation_of f (navigation_after f n p) ps

abbrev pub after_all : Format → List (List ℕ) → Navigation
after_all f ps = navigation_of f first_navigation ps

pub record Heard (f : Format) : Type 0 where
  -- the channels heard are those that some packet brought
  pub exactly : (ps : List (List ℕ)) (c : ℕ) → c < 256 → has (after_all f ps).heard c ≡ brought f ps c
  -- each counts once
  pub count : (ps : List (List ℕ)) → members (after_all f ps).heard ≡ count_by (brought f ps) (range_with_len 0 256)
  -- and has the bytes that came last
  pub latest : (ps : List (List ℕ)) (c : ℕ) → c < 256 → channel_of (after_all f ps) c ≡ latest_batch f None ps c
