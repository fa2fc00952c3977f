use Rattle.stage_flow.proofs.Round.{rounds_go_by_labels}
use Rattle.stage_flow.proofs.laws_of_walks.rounds_go_by_labels.Goals as goal

pub returns : goal.returns
returns c = rounds_go_by_labels
