use Rattle.blif_model.proofs.Values.{values_are_determined}
use Rattle.blif_model.proofs.laws.values_are_determined.Goals as goal

pub returns : goal.returns
returns c = values_are_determined
