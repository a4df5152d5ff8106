-- The set of channels that four words of 64 bits stand for.
use Rattle.std.specs.Prelude.{ℕ, ◌/◌, ◌%◌, ◌^◌, Bool, List, [], ◌∷◌, count_by, ◌==◌, bit_or, slice_index, slice_set}
use Rattle.std.specs.Int.{bit_at}
use Rattle.std.specs.List.{range_with_len}
use Rattle.oxts_record.specs.declared.channel_set.ChannelSet.{ChannelSet}

-- channel c is bit c % 64 of word c / 64
abbrev pub has_in : List ℕ → ℕ → Bool
has_in ws c = bit_at (slice_index ws (c / 64)) (c % 64) == 1

abbrev pub has : ChannelSet → ℕ → Bool
has s c = has_in s.words c

abbrev pub no_channels : ChannelSet
no_channels = record { words = 0 ∷ 0 ∷ 0 ∷ 0 ∷ [] }

abbrev pub with_channel : ChannelSet → ℕ → ChannelSet
with_channel s c = record { words = slice_set s.words (c / 64) (bit_or (slice_index s.words (c / 64)) (2 ^ (c % 64))) }

-- how many of the channels 0 to 255 are in the set
unfoldable pub members : ChannelSet → ℕ
members s = count_by (has s) (range_with_len 0 256)
