use Rattle.balance_map.proofs.CoverSteps.{HasCovered}
use Rattle.balance_map.proofs.covering.cover_nodes.Given as goal

abbrev pub invariant-loop-node : goal.invariant-loop-node
invariant-loop-node l = HasCovered l.s l.initial.net l.most l.node-index l.node-items l.net l.drivers.items
