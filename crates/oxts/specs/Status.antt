-- What the navigation status says of the packet's structure.
use Rattle.std.specs.Prelude.{ℕ, Bool, cond, ◌&&◌, ◌||◌, Some, None, Option, ◌==◌, nat_le}
use Rattle.oxts.specs.declared.status.Structure.{Structure}
use Rattle.oxts.specs.declared.status.Structure.TheVariants.{StructureA, StructureB}

-- 0 to 7, 10, and 20 to 22
abbrev pub is_structure_a : ℕ → Bool
is_structure_a s = nat_le s 7 || (s == 10 || (nat_le 20 s && nat_le s 22))

abbrev pub structure_of : ℕ → Option Structure
structure_of s = cond (is_structure_a s) (Some StructureA) (cond (s == 11) (Some StructureB) None)
