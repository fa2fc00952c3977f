use Rattle.stage_flow.proofs.Round.{the_receiver_is_least}
use Rattle.stage_flow.proofs.laws_of_walks.the_receiver_is_least.Goals as goal

pub returns : goal.returns
returns c = the_receiver_is_least
