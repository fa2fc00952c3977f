use Rattle.blif_model.proofs.Orders.{order_lists_tables}
use Rattle.blif_model.proofs.laws.order_lists_tables.Goals as goal

pub returns : goal.returns
returns c = order_lists_tables
