use Rattle.stage_flow.proofs.LeastLengths.{fitting-optimal}
use Rattle.stage_flow.proofs.laws_of_epochs.fitting_potentials_are_optimal.Goals as goal

pub returns : goal.returns
returns c = fitting-optimal
