-- The values of nodes over the finished list: a node reads values before its own alone, which stay as they were.
use Rattle.std.proofs.Common.{◌∙◌, false, get_or}
use Rattle.net_base.specs.NodeValues.{value_of, node_values, NodesFollowFanIns}
use Rattle.net_base.proofs.CallerLemmas.{get_or-per_item, value_of-take}

pub nodes_follow_fan_ins : NodesFollowFanIns
nodes_follow_fan_ins graph row node d proper within =
    get_or-per_item (value_of row) graph.nodes node false d within
    ∙ value_of-take row (node_values row graph.nodes) graph.inputs node (get_or graph.nodes node d) (proper.nodes node d within)
