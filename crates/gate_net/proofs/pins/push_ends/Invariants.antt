use Rattle.std.proofs.Common.{◌≡◌, ◌++◌, drop}
use Rattle.std.specs.List.{flat_map}
use Rattle.gate_net.specs.Net.{end_drivers}
use Rattle.gate_net.proofs.pins.push_ends.Given as goal

abbrev pub invariant-loop-end : goal.invariant-loop-end
invariant-loop-end l = l.drivers.items ++ flat_map end_drivers (drop l.end-index l.ends) ≡ l.initial.drivers.items ++ flat_map end_drivers l.ends
