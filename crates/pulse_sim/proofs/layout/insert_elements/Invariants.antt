use Rattle.std.proofs.Common.{◌≡◌, drop, nat_eq, flat_map}
use Rattle.indexmap.specs.IndexSet.{insert_all}
use Rattle.pulse_net.specs.Wired.{element_makes}
use Rattle.pulse_sim.proofs.layout.insert_elements.Given as goal

-- what remains, behind the wires so far, is what all elements make behind those before
abbrev pub invariant-loop-element : goal.invariant-loop-element
invariant-loop-element l = insert_all nat_eq l.wires.keys (flat_map element_makes (drop l.element-index l.elements)) ≡ insert_all nat_eq l.fn.wires.keys (flat_map element_makes l.elements)
