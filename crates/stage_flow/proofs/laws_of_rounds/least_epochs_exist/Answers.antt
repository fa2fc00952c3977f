use Rattle.stage_flow.proofs.LeastEpochsExist.{least-exist}
use Rattle.stage_flow.proofs.laws_of_rounds.least_epochs_exist.Goals as goal

pub returns : goal.returns
returns c = least-exist
