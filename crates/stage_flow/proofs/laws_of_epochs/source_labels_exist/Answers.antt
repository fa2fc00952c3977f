use Rattle.stage_flow.proofs.SourceLabelsExist.{source_labels-exist}
use Rattle.stage_flow.proofs.laws_of_epochs.source_labels_exist.Goals as goal

pub returns : goal.returns
returns c = source_labels-exist
