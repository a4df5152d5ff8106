use Rattle.std.proofs.Common.{◌∙◌}
use Rattle.line.proofs.Records.{first}
use Rattle.line.proofs.datagram.split_record.Goals as goal

pub returns : goal.returns
returns c =
    record {
      split =
          first c.args.memory.now _ _ _ c.split_at_checked.result c.in_ok-length.ensures.cases (c.from.ensures ∙ c.from_le_bytes.ensures)
          c.split_at_checked.ensures.cases;
    }
