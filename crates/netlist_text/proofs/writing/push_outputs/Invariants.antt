use Rattle.std.proofs.Common.{◌≡◌, ◌++◌, drop}
use Rattle.netlist_text.specs.Spelling.{output_lines}
use Rattle.netlist_text.proofs.writing.push_outputs.Given as goal

-- the text so far and the outputs that are left are the whole
abbrev pub invariant-loop-i : goal.invariant-loop-i
invariant-loop-i l = l.out.items ++ output_lines (drop l.i l.names) (drop l.i l.outlets) ≡ l.initial.out.items ++ output_lines l.names l.outlets
