use Rattle.stage_flow.proofs.Unique.{least-unique}
use Rattle.stage_flow.proofs.laws_of_epochs.least_epochs_are_unique.Goals as goal

pub returns : goal.returns
returns c = least-unique
