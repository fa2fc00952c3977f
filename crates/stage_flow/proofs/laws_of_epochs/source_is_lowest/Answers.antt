use Rattle.stage_flow.proofs.Supply.{source-lowest}
use Rattle.stage_flow.proofs.laws_of_epochs.source_is_lowest.Goals as goal

pub returns : goal.returns
returns c = source-lowest
