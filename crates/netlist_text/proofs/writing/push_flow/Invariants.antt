use Rattle.std.proofs.Common.{◌≡◌, ◌++◌, drop}
use Rattle.std.specs.List.{flat_map}
use Rattle.netlist_text.specs.Spelling.{flow_line}
use Rattle.netlist_text.proofs.writing.push_flow.Given as goal

-- the text so far and the lines of the pins that are left are the whole
abbrev pub invariant-loop-one : goal.invariant-loop-one
invariant-loop-one l = l.out.items ++ flat_map flow_line (drop l.one-index l.units) ≡ l.initial.out.items ++ flat_map flow_line l.units
