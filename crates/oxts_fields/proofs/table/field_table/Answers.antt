use Rattle.std.proofs.Common.{refl}
use Rattle.oxts_fields.specs.Table.{field_table}
use Rattle.oxts_fields.proofs.table.field_table.Goals as goal

-- one computed comparison of both tables, which says where a row differs
pub returns : goal.returns
unfolding field_table
returns c = record { value = refl }
