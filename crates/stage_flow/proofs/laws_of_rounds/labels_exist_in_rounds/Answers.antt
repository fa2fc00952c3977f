use Rattle.stage_flow.proofs.RoundLabels.{labels-exist_in_rounds}
use Rattle.stage_flow.proofs.laws_of_rounds.labels_exist_in_rounds.Goals as goal

pub returns : goal.returns
returns c = labels-exist_in_rounds
