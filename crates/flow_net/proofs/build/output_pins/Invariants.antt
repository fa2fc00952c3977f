use Rattle.std.proofs.Common.{◌≡◌, ◌+◌, ◌≤◌, drop, length}
use Rattle.std.specs.List.{flat_map}
use Rattle.gate_net.specs.Net.{end_drivers}
use Rattle.flow_net.proofs.build.output_pins.Given as goal

abbrev pub invariant-loop-end : goal.invariant-loop-end
invariant-loop-end l = (l.count + length (flat_map end_drivers (drop l.end-index l.outputs)) ≡ length (flat_map end_drivers l.outputs)) × (l.count ≤ l.end-index)
