use Rattle.std.proofs.Common.{◌≡◌, drop, map, max}
use Rattle.std.specs.List.{flat_map}
use Rattle.gate_net.specs.Net.{end_drivers}
use Rattle.phase_rule.specs.Levels.{largest}
use Rattle.gate_net.specs.Entries.{entry_of}
use Rattle.flow_net.proofs.earliest.last_epoch.Given as goal

abbrev pub invariant-loop-end : goal.invariant-loop-end
invariant-loop-end l = max l.last (largest (map (entry_of l.gates) (flat_map end_drivers (drop l.end-index l.outputs)))) ≡ largest (map (entry_of l.gates) (flat_map end_drivers l.outputs))
