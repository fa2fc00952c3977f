use Rattle.std.proofs.Common.{◌≡◌, ◌++◌, drop}
use Rattle.netlist_text.specs.Spelling.{input_lines}
use Rattle.netlist_text.proofs.writing.push_inputs.Given as goal

-- the text so far and the inputs that are left are the whole
abbrev pub invariant-loop-i : goal.invariant-loop-i
invariant-loop-i l = l.out.items ++ input_lines (drop l.i l.names) (drop l.i l.wires) ≡ l.initial.out.items ++ input_lines l.names l.wires
