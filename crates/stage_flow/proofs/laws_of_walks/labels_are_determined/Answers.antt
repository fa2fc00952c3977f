use Rattle.stage_flow.proofs.LabelBounds.{labels_are_determined}
use Rattle.stage_flow.proofs.laws_of_walks.labels_are_determined.Goals as goal

pub returns : goal.returns
returns c = labels_are_determined
