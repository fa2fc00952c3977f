use Rattle.flow_net.proofs.Duality.{weak-duality}
use Rattle.flow_net.proofs.laws.flow_value_is_at_most_dro_count.Goals as goal

pub returns : goal.returns
returns c = weak-duality
