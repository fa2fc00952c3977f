use Rattle.std.proofs.Common.{◌≡◌, ◌+◌, ◌*◌, ◌≤◌, drop, length}
use Rattle.flow_net.specs.Uses.{gate_uses}
use Rattle.flow_net.proofs.build.gate_pins.Given as goal

abbrev pub invariant-loop-row : goal.invariant-loop-row
invariant-loop-row l = (l.count + length (gate_uses (l.row-index + 1) (drop l.row-index l.rows)) ≡ length (gate_uses 1 l.rows)) × (l.count ≤ 3 * l.row-index)
