use Rattle.blif_model.proofs.Orders.{order_follows_drivers}
use Rattle.blif_model.proofs.laws.order_follows_drivers.Goals as goal

pub returns : goal.returns
returns c = order_follows_drivers
