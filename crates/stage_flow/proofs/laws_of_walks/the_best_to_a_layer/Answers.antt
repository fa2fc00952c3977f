use Rattle.stage_flow.proofs.Round.{the_best_to_a_layer}
use Rattle.stage_flow.proofs.laws_of_walks.the_best_to_a_layer.Goals as goal

pub returns : goal.returns
returns c = the_best_to_a_layer
