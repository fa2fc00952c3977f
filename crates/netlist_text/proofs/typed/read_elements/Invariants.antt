use Rattle.std.specs.Prelude.{All, take}
use Rattle.pulse_net.specs.declared.net.Element.{Element}
use Rattle.netlist_text.specs.Lines.{IsSmall, numbers_of}
use Rattle.netlist_text.proofs.typed.read_elements.Given as goal

-- those read so far are
abbrev pub invariant-loop-element : goal.invariant-loop-element
invariant-loop-element l = All (λ (element : Element). All IsSmall (numbers_of element)) (take l.element-index l.elements)
