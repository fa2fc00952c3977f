use Rattle.pulse_net.proofs.StagesAndDrosFollowDepths.{stages_follow_depths}
use Rattle.pulse_net.proofs.laws.stages_follow_depths.Goals as goal

pub returns : goal.returns
returns c = stages_follow_depths
