use Rattle.std.proofs.Common.{◌≡◌, ◌++◌, ◌+◌, drop}
use Rattle.flow_net.specs.Uses.{gate_uses}
use Rattle.flow_net.proofs.uses.push_gate_uses.Given as goal

abbrev pub invariant-loop-row : goal.invariant-loop-row
invariant-loop-row l = (l.uses.items ++ gate_uses l.user (drop l.row-index l.rows) ≡ l.initial.uses.items ++ gate_uses 1 l.rows) × (l.user ≡ l.row-index + 1)
