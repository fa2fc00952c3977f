use Rattle.std.proofs.Common.{All, subst}
use Rattle.std.proofs.lemmas.List.{take_all}
use Rattle.std.proofs.lemmas.List.Elements.{All-more}
use Rattle.pulse_net.specs.declared.net.Element.{Element}
use Rattle.netlist_text.specs.Lines.{IsSmall, numbers_of}
use Rattle.netlist_text.proofs.typed.read_elements.Goals as goal

pub loop-element-preserved : goal.loop-element-preserved
loop-element-preserved c = All-more (λ (element : Element). All IsSmall (numbers_of element)) c.args.elements.now c.loop-element.element-index c.element-item.result c.loop-element-test.true c.loop-element.invariant (subst (λ (element : Element). All IsSmall (numbers_of element)) c.element-item.is c.read_element.ensures)

pub returns : goal.returns
returns c = subst (All (λ (element : Element). All IsSmall (numbers_of element))) (take_all c.loop-element.element-index c.args.elements.now c.loop-element-test.false) c.loop-element.invariant
