-- The quantities of a packet, batch by batch.
use Rattle.std.specs.Prelude.{ℕ, ◌+◌, List, pos, slice_index}
use Rattle.oxts.specs.declared.batches.BatchC.{BatchC}
use Rattle.oxts.specs.declared.batches.Inertial.{Inertial}
use Rattle.oxts.specs.declared.batches.Solution.{Solution}
use Rattle.oxts.specs.declared.batches.StatusBatch.{StatusBatch}
use Rattle.oxts.specs.declared.batches.Vector.{Vector}
use Rattle.oxts.specs.declared.format.Format.{Format}
use Rattle.oxts.specs.declared.format.Format.TheVariants.{Ncom, Mcom}
use Rattle.oxts.specs.Formats.{channel_place}
use Rattle.oxts.specs.Words.{unsigned16_at, signed24_at, unsigned32_at, signed64_at}

abbrev pub vector_at : List ℕ → ℕ → Vector
vector_at bs i = record { x = signed24_at bs i; y = signed24_at bs (i + 3); z = signed24_at bs (i + 6) }

-- Batch A: time at 1, accelerations at 3, 6, 9, angular rates at 12, 15, 18
abbrev pub inertial_in : List ℕ → Inertial
inertial_in bs = record { time = unsigned16_at bs 1; accelerations = vector_at bs 3; rates = vector_at bs 12 }

-- Batch B: latitude at 23, longitude at 31, altitude at 39, velocities at 43, 46, 49, heading, pitch and roll at 52, 55, 58
abbrev pub solution_in : List ℕ → Solution
solution_in bs =
    record {
      latitude = signed64_at bs 23;
      longitude = signed64_at bs 31;
      altitude = unsigned32_at bs 39;
      velocity = vector_at bs 43;
      attitude = vector_at bs 52;
    }

-- Batch C: twelve bytes at 62, in MCOM alone
abbrev pub batch_c_in : Format → List ℕ → BatchC
batch_c_in Ncom bs = record { front = pos 0; back = 0 }
batch_c_in Mcom bs = record { front = signed64_at bs 62; back = unsigned32_at bs 70 }

-- the channel's number, the eight bytes of Batch S behind it, and Batch C
abbrev pub status_batch_in : Format → List ℕ → StatusBatch
status_batch_in f bs =
    record { channel = slice_index bs (channel_place f); batch_s = signed64_at bs (channel_place f + 1); batch_c = batch_c_in f bs }
