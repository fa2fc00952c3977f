use Rattle.std.proofs.Common.{◌≡◌, length, map, All}
use Rattle.blif_read.specs.Clean.{IsCleanUnlessBad}
use Rattle.blif_read.specs.Reading.{reads_lines}
use Rattle.blif_read.specs.Readers.{IsSound, state_of}
use Rattle.blif_read.specs.State.{start}
use Rattle.blif_read.specs.Words.{line_at, lines_in}
use Rattle.blif_read.proofs.reading.read_lines.Given as goal

-- what the definition reads of the other lines, in the state so far, is what it reads of all
abbrev pub invariant-loop-line : goal.invariant-loop-line
invariant-loop-line l = record {
  whole : reads_lines (map (line_at l.text) l.lines.left) (state_of l.reader) ≡ reads_lines (lines_in l.text) start;
  text : l.lines.text ≡ l.text;
  clean : All (IsCleanUnlessBad l.text) l.lines.left;
  sound : IsSound (state_of l.reader);
}

abbrev pub decreases-loop-line : goal.decreases-loop-line
decreases-loop-line l = length l.lines.left
