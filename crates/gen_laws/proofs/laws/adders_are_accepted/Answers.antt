use Rattle.gen_laws.proofs.RippleCarryOrder as order
use Rattle.gen_laws.proofs.laws.adders_are_accepted.Goals as goal

pub returns : goal.returns
returns c = order.adders_are_accepted c.designs_in_order_are_accepted.ensures
