-- The packets that the manuals describe, and that these and no others are accepted.
use Rattle.std.specs.Prelude.{◌≡◌, ℕ, ◌-◌, ◌≤◌, true, ◌⊎◌, List, length, take, slice_index, slice_index_or}
use Rattle.reading.specs.declared.message.Body.{Body}
use Rattle.reading.specs.Rules.{Accepts}
use Rattle.oxts.specs.declared.format.Format.{Format}
use Rattle.oxts.specs.Formats.{longest_of}
use Rattle.oxts.specs.Status.{is_structure_a}
use Rattle.oxts_judge.specs.Bodies.{status_body, passed_body}
use Rattle.oxts_judge.specs.Judge.{sum_before}
use Rattle.oxts_judge.specs.Models.{oxts_model}

-- Each checksum is the sum of the bytes before it, the sync byte apart.
pub record StructureAPacket (f : Format) (p : List ℕ) : Type 0 where
  pub long : length p ≡ longest_of f
  pub sync : slice_index_or p 0 0 ≡ 231
  pub status : is_structure_a (slice_index p 21) ≡ true
  pub checksum_1 : slice_index_or p 22 0 ≡ sum_before 22 p
  pub checksum_2 : slice_index_or p 61 0 ≡ sum_before 61 p
  pub checksum_3 : slice_index_or p (longest_of f - 1) 0 ≡ sum_before (longest_of f - 1) p

pub record StructureBPacket (f : Format) (p : List ℕ) : Type 0 where
  pub long : length p ≡ longest_of f
  pub sync : slice_index_or p 0 0 ≡ 231
  pub status : slice_index_or p 21 0 ≡ 11
  pub checksum : slice_index_or p (longest_of f - 1) 0 ≡ sum_before (longest_of f - 1) p

-- The first n bytes of `rest` are a packet, and b is what it tells.
pub record Begins (f : Format) (rest : List ℕ) (n : ℕ) (b : Body) : Type 0 where
  pub long : n ≡ longest_of f
  pub within : n ≤ length rest
  pub packet : (StructureAPacket f (take n rest) × (b ≡ status_body f (take n rest))) ⊎ (StructureBPacket f (take n rest) × (b ≡ passed_body (take n rest)))

-- Whatever record is kept, a packet is accepted only where one begins, and wherever one begins.
pub record AcceptsPackets (R : Type 0) : Type 0 where
  pub only : (f : Format) (first : R) (absorb : R → List ℕ → R) (rest : List ℕ) (n : ℕ) (b : Body) → Accepts (oxts_model f first absorb) rest n b → Begins f rest n b
  pub all : (f : Format) (first : R) (absorb : R → List ℕ → R) (rest : List ℕ) (n : ℕ) (b : Body) → Begins f rest n b → Accepts (oxts_model f first absorb) rest n b
