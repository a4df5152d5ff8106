-- What a packet tells, as the body of a message.
use Rattle.std.specs.Prelude.{ℕ, List, [], ◌∷◌, replicate, pos, slice_index}
use Rattle.reading.specs.declared.message.Kind.TheVariants.{Inertial, Solution, Status, Passed}
use Rattle.reading.specs.declared.message.Body.{Body}
use Rattle.oxts.specs.declared.format.Format.{Format}
use Rattle.oxts.specs.declared.status.Structure.{Structure}
use Rattle.oxts.specs.declared.status.Structure.TheVariants.{StructureA, StructureB}
use Rattle.oxts.specs.Batches.{inertial_in, solution_in, status_batch_in}

-- the status; time, accelerations and angular rates
unfoldable pub inertial_body : List ℕ → Body
inertial_body bs =
    record {
      kind = Inertial;
      code = slice_index bs 21;
      quantities =
          pos (inertial_in bs).time ∷ (inertial_in bs).accelerations.x ∷ (inertial_in bs).accelerations.y ∷ (inertial_in bs).accelerations.z
          ∷ (inertial_in bs).rates.x ∷ (inertial_in bs).rates.y ∷ (inertial_in bs).rates.z ∷ pos 0 ∷ pos 0 ∷ [];
    }

-- the status; latitude, longitude, altitude, velocity north, east, down, heading, pitch, roll
unfoldable pub solution_body : List ℕ → Body
solution_body bs =
    record {
      kind = Solution;
      code = slice_index bs 21;
      quantities =
          (solution_in bs).latitude ∷ (solution_in bs).longitude ∷ pos (solution_in bs).altitude
          ∷ (solution_in bs).velocity.x ∷ (solution_in bs).velocity.y ∷ (solution_in bs).velocity.z
          ∷ (solution_in bs).attitude.x ∷ (solution_in bs).attitude.y ∷ (solution_in bs).attitude.z ∷ [];
    }

-- the channel; Batch S, and Batch C
unfoldable pub status_body : Format → List ℕ → Body
status_body f bs =
    record {
      kind = Status;
      code = (status_batch_in f bs).channel;
      quantities = (status_batch_in f bs).batch_s ∷ (status_batch_in f bs).batch_c.front ∷ pos (status_batch_in f bs).batch_c.back ∷ replicate 6 (pos 0);
    }

-- byte 22
unfoldable pub passed_body : List ℕ → Body
passed_body bs = record { kind = Passed; code = slice_index bs 22; quantities = replicate 9 (pos 0) }

-- what a whole packet tells
abbrev pub packet_body : Format → Structure → List ℕ → Body
packet_body f StructureA bs = status_body f bs
packet_body f StructureB bs = passed_body bs
