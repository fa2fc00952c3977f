use Rattle.stage_flow.proofs.LabelledRounds.{labelled_rounds-full}
use Rattle.stage_flow.proofs.laws_of_rounds.labelled_rounds_make_a_full_flow.Goals as goal

pub returns : goal.returns
returns c = labelled_rounds-full
