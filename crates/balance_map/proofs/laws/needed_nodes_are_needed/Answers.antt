use Rattle.balance_map.proofs.NeededNodes.{needed_nodes_are_needed}
use Rattle.balance_map.proofs.laws.needed_nodes_are_needed.Goals as goal

pub returns : goal.returns
returns c = needed_nodes_are_needed
