use Rattle.std.proofs.Common.{length}
use Rattle.netlist_text.specs.Faults.{IsRead}
use Rattle.netlist_text.specs.Read.{said}
use Rattle.netlist_text.proofs.reading.read_lines.Given as goal

-- so many lines were read, and the reader holds what they say
abbrev pub invariant-loop-word : goal.invariant-loop-word
invariant-loop-word l = IsRead l.text l.lines (said l.reader) l.rest

abbrev pub decreases-loop-word : goal.decreases-loop-word
decreases-loop-word l = length l.rest
