-- What the packets of one device leave behind.
use Rattle.std.specs.Prelude.{ℕ, ◌+◌, cond, List, [], ◌∷◌, replicate, Some, None, Option, ◌==◌, slice_index, slice_index_or, slice_set}
use Rattle.oxts.specs.declared.format.Format.{Format}
use Rattle.oxts.specs.Formats.{channel_place}
use Rattle.oxts.specs.Status.{is_structure_a}
use Rattle.oxts_record.specs.declared.navigation.Navigation.{Navigation}
use Rattle.oxts_record.specs.declared.snapshot.Snapshot.{Snapshot}
use Rattle.oxts_record.specs.ChannelSets.{no_channels, has, with_channel}
use Rattle.oxts_record.specs.Snapshots.{first_snapshot, snapshot_after}

-- byte 21 of a packet
abbrev pub status_in : List ℕ → ℕ
status_in p = slice_index p 21

-- the number of the channel that a packet brings
abbrev pub channel_in : Format → List ℕ → ℕ
channel_in f p = slice_index p (channel_place f)

-- the eight bytes behind place i
abbrev pub batch_at : List ℕ → ℕ → List ℕ
batch_at p i =
    slice_index p (i + 1) ∷ slice_index p (i + 2) ∷ slice_index p (i + 3) ∷ slice_index p (i + 4) ∷ slice_index p (i + 5) ∷ slice_index p (i + 6) ∷ slice_index p (i + 7) ∷ slice_index p (i + 8) ∷ []

unfoldable pub zero_channels : List (List ℕ)
zero_channels = replicate 256 (replicate 8 0)

abbrev pub first_navigation : Navigation
first_navigation = record { latest = first_snapshot; channels = zero_channels; heard = no_channels }

abbrev pub with_latest : Snapshot → Navigation → Navigation
with_latest s n = record { latest = s; channels = n.channels; heard = n.heard }

-- the packet's channel has its eight bytes now, and is heard
abbrev pub channel_taken : Format → List ℕ → Navigation → Navigation
channel_taken f p n =
    record {
      latest = n.latest;
      channels = slice_set n.channels (channel_in f p) (batch_at p (channel_place f));
      heard = with_channel n.heard (channel_in f p);
    }

-- status 0 leaves the channels as they are
abbrev pub channel_after : Format → List ℕ → Navigation → Navigation
channel_after f p n = cond (status_in p == 0) n (channel_taken f p n)

-- only structure-A packets change anything
abbrev pub navigation_after : Format → Navigation → List ℕ → Navigation
navigation_after f n p =
    cond (is_structure_a (status_in p)) (channel_after f p (with_latest (snapshot_after (status_in p) n.latest p) n)) n

-- the eight bytes of a channel that was heard
abbrev pub channel_of : Navigation → ℕ → Option (List ℕ)
channel_of n c = cond (has n.heard c) (Some (slice_index_or n.channels c [])) None
