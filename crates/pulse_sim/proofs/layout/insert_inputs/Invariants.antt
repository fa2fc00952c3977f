use Rattle.std.proofs.Common.{◌≡◌, drop, nat_eq, flat_map, option_to_list}
use Rattle.indexmap.specs.IndexSet.{insert_all}
use Rattle.pulse_sim.proofs.layout.insert_inputs.Given as goal

-- what remains, behind the wires so far, is what all inputs make behind those before
abbrev pub invariant-loop-input : goal.invariant-loop-input
invariant-loop-input l = insert_all nat_eq l.wires.keys (flat_map option_to_list (drop l.input-index l.inputs)) ≡ insert_all nat_eq l.fn.wires.keys (flat_map option_to_list l.inputs)
