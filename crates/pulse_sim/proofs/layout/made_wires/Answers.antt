use Rattle.std.proofs.Common.{List, ℕ, Option, nat_eq, flat_map, option_to_list, ap, ap₂, ◌∙◌}
use Rattle.indexmap.specs.IndexSet.{insert_all}
use Rattle.pulse_net.specs.declared.net.Element.{Element}
use Rattle.pulse_net.specs.Wired.{element_makes}
use Rattle.pulse_sim.proofs.MadeWires.{inserted-all}
use Rattle.pulse_sim.proofs.layout.made_wires.Goals as goal

pub returns : goal.returns
returns c =
    inserted-all c.args.net.now c.insert_inputs.new.wires.keys c.insert_elements.new.wires.keys ((c.unbroken_is_wired.ensures c.args.net.now).0 c.requires.unbroken).made_once
    (c.in_ok-insert_inputs.ensures ∙ ap₂ (λ (keys : List ℕ) (inputs : List (Option ℕ)). insert_all nat_eq keys (flat_map option_to_list inputs)) c.new-wires.ensures.empty c.as_slice.ensures)
    (c.in_ok-insert_elements.ensures ∙ ap (λ (elements : List Element). insert_all nat_eq c.insert_inputs.new.wires.keys (flat_map element_makes elements)) c.as_slice-2.ensures)
