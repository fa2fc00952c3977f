use Rattle.blif_read.specs.Words.{line_at}
use Rattle.blif_read.specs.Readers.{state_of}
use Rattle.blif_read.proofs.LinesRead.{reads-bad}
use Rattle.blif_read.proofs.reading.read_line.Goals as goal

pub returns-then-line : goal.returns-then-line
returns-then-line c = reads-bad (line_at c.args.text.now c.args.line.now) (state_of c.args.reader.now) c.if-line.true
