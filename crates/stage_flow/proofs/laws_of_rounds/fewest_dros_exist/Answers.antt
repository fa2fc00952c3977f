use Rattle.stage_flow.proofs.RoundLabels.{fewest-exist}
use Rattle.stage_flow.proofs.laws_of_rounds.fewest_dros_exist.Goals as goal

pub returns : goal.returns
returns c = fewest-exist
