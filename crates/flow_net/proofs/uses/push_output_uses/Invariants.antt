use Rattle.std.proofs.Common.{◌≡◌, ◌++◌, drop, map}
use Rattle.std.specs.List.{flat_map}
use Rattle.gate_net.specs.Net.{end_drivers}
use Rattle.flow_net.specs.Uses.{use_by}
use Rattle.flow_net.proofs.uses.push_output_uses.Given as goal

abbrev pub invariant-loop-end : goal.invariant-loop-end
invariant-loop-end l = l.uses.items ++ map (use_by l.sink) (flat_map end_drivers (drop l.end-index l.outputs)) ≡ l.initial.uses.items ++ map (use_by l.sink) (flat_map end_drivers l.outputs)
