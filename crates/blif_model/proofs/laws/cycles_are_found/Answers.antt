use Rattle.blif_model.proofs.Cycles.{cycles_are_found}
use Rattle.blif_model.proofs.laws.cycles_are_found.Goals as goal

pub returns : goal.returns
returns c = cycles_are_found
