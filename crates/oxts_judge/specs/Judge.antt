-- The verdict on the first bytes at a place, by their number.
use Rattle.std.specs.Prelude.{ℕ, ◌-◌, ◌%◌, cond, List, length, Some, None, sum, Option, ◌==◌, slice_index, slice_range}
use Rattle.reading.specs.declared.message.Body.{Body}
use Rattle.reading.specs.declared.message.Defect.{Defect}
use Rattle.reading.specs.declared.message.Verdict.{Verdict}
use Rattle.reading.specs.declared.message.Verdict.TheVariants.{Wait, Early, Fault, Whole}
use Rattle.oxts_judge.specs.declared.cause.Cause.{Cause}
use Rattle.oxts_judge.specs.declared.cause.Cause.TheVariants.{Sync, Status, InertialSum, SolutionSum, PacketSum}
use Rattle.oxts.specs.declared.format.Format.{Format}
use Rattle.oxts.specs.declared.status.Structure.{Structure}
use Rattle.oxts.specs.declared.status.Structure.TheVariants.{StructureA, StructureB}
use Rattle.oxts_judge.specs.Causes.{cause_number}
use Rattle.oxts.specs.Formats.{longest_of}
use Rattle.oxts.specs.Status.{structure_of}
use Rattle.oxts_judge.specs.Bodies.{inertial_body, solution_body, packet_body}

abbrev pub sum_of : List ℕ → ℕ
sum_of bs = sum bs % 256

-- the sum of bytes 1 to n - 1, modulo 256
abbrev pub sum_before : ℕ → List ℕ → ℕ
sum_before n bs = sum_of (slice_range bs 1 n)

abbrev pub defect : Cause → ℕ → ℕ → Defect
defect c f e = record { cause = cause_number c; found = f; expected = e }

-- a defect where byte n is not the sum of those before it
abbrev pub sum_defect : Cause → ℕ → List ℕ → Option Defect
sum_defect c n bs = cond (slice_index bs n == sum_before n bs) None (Some (defect c (slice_index bs n) (sum_before n bs)))

-- v where there is no defect
abbrev pub unless : Option Defect → Verdict → Verdict
unless None v = v
unless (Some d) v = Fault d

abbrev pub structure_in : List ℕ → Option Structure
structure_in bs = structure_of (slice_index bs 21)

-- 1 byte: the sync byte
abbrev pub sync_verdict : ℕ → Verdict
sync_verdict b = cond (b == 231) Wait (Fault (defect Sync b 231))

-- 22 bytes: the navigation status
abbrev pub status_verdict : Option Structure → ℕ → Verdict
status_verdict (Some t) s = Wait
status_verdict None s = Fault (defect Status s 0)

-- a batch that ends at byte n, where its checksum is, in structure-A alone; `told` is what it tells
abbrev pub early_verdict : Cause → (List ℕ → Body) → ℕ → Option Structure → List ℕ → Verdict
early_verdict c told n (Some StructureA) bs = unless (sum_defect c n bs) (Early (told bs))
early_verdict c told n (Some StructureB) bs = Wait
early_verdict c told n None bs = Wait

-- 23 bytes: Batch A and its checksum
abbrev pub inertial_verdict : Option Structure → List ℕ → Verdict
inertial_verdict = early_verdict InertialSum inertial_body 22

-- 62 bytes: Batch B and its checksum
abbrev pub solution_verdict : Option Structure → List ℕ → Verdict
solution_verdict = early_verdict SolutionSum solution_body 61

-- a packet whose last checksum is byte n
abbrev pub whole_verdict : Format → ℕ → Option Structure → List ℕ → Verdict
whole_verdict f n (Some t) bs = unless (sum_defect PacketSum n bs) (Whole (packet_body f t bs))
whole_verdict f n None bs = Wait

-- the longest length: the last checksum
abbrev pub packet_verdict : Format → Option Structure → List ℕ → Verdict
packet_verdict f = whole_verdict f (longest_of f - 1)

abbrev pub judge_of : Format → List ℕ → Verdict
judge_of f bs =
    cond (length bs == 1) (sync_verdict (slice_index bs 0))
    (cond (length bs == 22) (status_verdict (structure_in bs) (slice_index bs 21))
    (cond (length bs == 23) (inertial_verdict (structure_in bs) bs)
    (cond (length bs == 62) (solution_verdict (structure_in bs) bs)
    (cond (length bs == longest_of f) (packet_verdict f (structure_in bs) bs)
    Wait))))
