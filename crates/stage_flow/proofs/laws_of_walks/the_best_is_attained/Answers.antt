use Rattle.stage_flow.proofs.Best.{the_best_is_attained}
use Rattle.stage_flow.proofs.laws_of_walks.the_best_is_attained.Goals as goal

pub returns : goal.returns
returns c = the_best_is_attained
