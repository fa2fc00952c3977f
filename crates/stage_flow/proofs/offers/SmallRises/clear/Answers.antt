use Rattle.std.proofs.Common.{map, length, ap}
use Rattle.stage_flow.proofs.RiseLists.{joined-none}
use Rattle.stage_flow.proofs.offers.SmallRises.clear.Goals as goal

pub returns : goal.returns
returns c = joined-none (map (λ list. list.items) c.empty_all.new.lists.items) (λ place. ap length (c.empty_all.ensures.none place))
