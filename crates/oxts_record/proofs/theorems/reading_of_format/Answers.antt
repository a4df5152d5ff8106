use Rattle.oxts_record.proofs.FormatReads.{reads_format}
use Rattle.oxts_record.proofs.theorems.reading_of_format.Goals as goal

pub returns : goal.returns
returns g c =
    record { reads = reads_format g.M.Marker.FORMAT c.packets_by_manual.ensures.packets c.reading_keeps.ensures.keeps }
