use Rattle.stage_flow.proofs.ReceiverFound.{rounds-make-full}
use Rattle.stage_flow.proofs.laws_of_sending.rounds_make_a_full_flow.Goals as goal

pub returns : goal.returns
returns c = rounds-make-full
