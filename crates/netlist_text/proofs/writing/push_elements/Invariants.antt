use Rattle.std.proofs.Common.{◌≡◌, ◌++◌, drop}
use Rattle.std.specs.List.{flat_map}
use Rattle.netlist_text.specs.Spelling.{element_line}
use Rattle.netlist_text.proofs.writing.push_elements.Given as goal

-- the text so far and the elements that are left are the whole
abbrev pub invariant-loop-element : goal.invariant-loop-element
invariant-loop-element l = l.out.items ++ flat_map element_line (drop l.element-index l.elements) ≡ l.initial.out.items ++ flat_map element_line l.elements
