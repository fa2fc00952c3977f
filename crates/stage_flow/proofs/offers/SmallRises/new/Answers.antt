use Rattle.std.proofs.Common.{map, length, ap}
use Rattle.stage_flow.proofs.RiseLists.{joined-none}
use Rattle.stage_flow.proofs.offers.SmallRises.new.Goals as goal

pub returns : goal.returns
returns c = joined-none (map (λ list. list.items) c.in_ok-lists.lists.items) (λ place. ap length (c.in_ok-lists.ensures.none place))
