use Rattle.stage_flow.proofs.LabelBounds.{labels_are_best}
use Rattle.stage_flow.proofs.laws_of_walks.labels_are_best.Goals as goal

pub returns : goal.returns
returns c = labels_are_best
