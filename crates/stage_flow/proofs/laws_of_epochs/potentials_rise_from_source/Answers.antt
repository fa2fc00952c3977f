use Rattle.stage_flow.proofs.Supply.{supplied-rise}
use Rattle.stage_flow.proofs.laws_of_epochs.potentials_rise_from_source.Goals as goal

pub returns : goal.returns
returns c = supplied-rise
