use Rattle.stage_flow.proofs.SourceLabels.{labels-are_farthest}
use Rattle.stage_flow.proofs.laws_of_epochs.labels_are_farthest.Goals as goal

pub returns : goal.returns
returns c = labels-are_farthest
