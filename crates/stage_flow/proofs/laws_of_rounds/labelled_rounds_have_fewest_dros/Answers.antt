use Rattle.stage_flow.proofs.LabelledRounds.{labelled_rounds-fewest}
use Rattle.stage_flow.proofs.laws_of_rounds.labelled_rounds_have_fewest_dros.Goals as goal

pub returns : goal.returns
returns c = labelled_rounds-fewest
