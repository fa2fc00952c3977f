use Rattle.balance_map.proofs.CoverLaws.{covers_are_nets}
use Rattle.balance_map.proofs.laws.covers_are_nets.Goals as goal

pub returns : goal.returns
returns c = covers_are_nets
