use Rattle.blif_model.proofs.Orders.{order_is_by_level}
use Rattle.blif_model.proofs.laws.order_is_by_level.Goals as goal

pub returns : goal.returns
returns c = order_is_by_level
