-- The two packet formats: NCOM has 72 bytes, and MCOM 84, since its Batch C of twelve bytes stands before the channel.
use Rattle.std.specs.Prelude.{ℕ}
use Rattle.oxts.specs.declared.format.Format.{Format}
use Rattle.oxts.specs.declared.format.Format.TheVariants.{Ncom, Mcom}

abbrev pub longest_of : Format → ℕ
longest_of Ncom = 72
longest_of Mcom = 84

abbrev pub channel_place : Format → ℕ
channel_place Ncom = 62
channel_place Mcom = 74
