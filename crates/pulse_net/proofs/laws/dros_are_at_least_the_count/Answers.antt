use Rattle.pulse_net.proofs.BalancedUnfolding.{dros_are_at_least_the_count}
use Rattle.pulse_net.proofs.laws.dros_are_at_least_the_count.Goals as goal

pub returns : goal.returns
returns c = dros_are_at_least_the_count
