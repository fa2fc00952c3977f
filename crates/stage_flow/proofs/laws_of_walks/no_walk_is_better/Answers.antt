use Rattle.stage_flow.proofs.Best.{no_walk_is_better}
use Rattle.stage_flow.proofs.laws_of_walks.no_walk_is_better.Goals as goal

pub returns : goal.returns
returns c = no_walk_is_better
