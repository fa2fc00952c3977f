use Rattle.stage_flow.proofs.RoundLabels.{rounds-are_full}
use Rattle.stage_flow.proofs.laws_of_rounds.rounds_are_full.Goals as goal

pub returns : goal.returns
returns c = rounds-are_full
