use Rattle.net_base.specs.NodeValues.{value_of}
use Rattle.net_base.proofs.CallerLemmas.{take-per_item-append}
use Rattle.net_base.proofs.laws.later_nodes_keep_values.Goals as goal

pub returns : goal.returns
returns c = λ row nodes more. take-per_item-append (value_of row) nodes more
