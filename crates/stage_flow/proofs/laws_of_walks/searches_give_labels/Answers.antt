use Rattle.stage_flow.proofs.Depths.{searches_give_labels}
use Rattle.stage_flow.proofs.laws_of_walks.searches_give_labels.Goals as goal

pub returns : goal.returns
returns c = searches_give_labels
