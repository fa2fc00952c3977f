use Rattle.blif_model.proofs.Orders.{levels_follow_drivers}
use Rattle.blif_model.proofs.laws.levels_follow_drivers.Goals as goal

pub returns : goal.returns
returns c = levels_follow_drivers
