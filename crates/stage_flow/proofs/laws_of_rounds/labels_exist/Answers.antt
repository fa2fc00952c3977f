use Rattle.stage_flow.proofs.LabelsExist.{labels-exist}
use Rattle.stage_flow.proofs.laws_of_rounds.labels_exist.Goals as goal

pub returns : goal.returns
returns c = labels-exist
