use Rattle.stage_flow.proofs.Round.{the_last_way_is_least}
use Rattle.stage_flow.proofs.laws_of_walks.the_last_way_is_least.Goals as goal

pub returns : goal.returns
returns c = the_last_way_is_least
