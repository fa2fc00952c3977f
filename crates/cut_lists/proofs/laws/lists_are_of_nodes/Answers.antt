use Rattle.cut_lists.proofs.Rights.{list_of_node}
use Rattle.cut_lists.proofs.laws.lists_are_of_nodes.Goals as goal

pub returns : goal.returns
returns c = list_of_node
