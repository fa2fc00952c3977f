use Rattle.net_base.proofs.Nodes.{nodes_follow_fan_ins}
use Rattle.net_base.proofs.laws.nodes_follow_fan_ins.Goals as goal

pub returns : goal.returns
returns c = nodes_follow_fan_ins
