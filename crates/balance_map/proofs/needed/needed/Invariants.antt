use Rattle.balance_map.proofs.Downwards.{IsDownTo}
use Rattle.balance_map.proofs.needed.needed.Given as goal

abbrev pub invariant-loop-node : goal.invariant-loop-node
invariant-loop-node l = IsDownTo l.s l.node l.marks.items l.nodes.items
