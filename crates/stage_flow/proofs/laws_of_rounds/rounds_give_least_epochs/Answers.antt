use Rattle.stage_flow.proofs.RoundEpochs.{rounds_give-least_epochs}
use Rattle.stage_flow.proofs.laws_of_rounds.rounds_give_least_epochs.Goals as goal

pub returns : goal.returns
returns c = rounds_give-least_epochs
