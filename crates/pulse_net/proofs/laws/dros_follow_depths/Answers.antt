use Rattle.pulse_net.proofs.StagesAndDrosFollowDepths.{dros_follow_depths}
use Rattle.pulse_net.proofs.laws.dros_follow_depths.Goals as goal

pub returns : goal.returns
returns c = dros_follow_depths
