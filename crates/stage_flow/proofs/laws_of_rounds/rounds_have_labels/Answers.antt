use Rattle.stage_flow.proofs.RoundLabels.{rounds-labels}
use Rattle.stage_flow.proofs.laws_of_rounds.rounds_have_labels.Goals as goal

pub returns : goal.returns
returns c = rounds-labels
