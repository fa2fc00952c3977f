use Rattle.stage_flow.proofs.LeastLengths.{labels-few}
use Rattle.stage_flow.proofs.laws_of_epochs.labels_are_few.Goals as goal

pub returns : goal.returns
returns c = labels-few
