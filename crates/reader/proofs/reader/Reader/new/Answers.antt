use Rattle.std.proofs.Common.{rules}
use Rattle.reading.specs.Reading.{reading, read}
use Rattle.reader.proofs.reader.Reader.new.Goals as goal

pub returns : goal.returns
unfolding reading read
returns g c = search rules
