use Rattle.pulse_net.proofs.BalancedUnfolding.{unused_netlists_have_latency_one}
use Rattle.pulse_net.proofs.laws.unused_netlists_have_latency_one.Goals as goal

pub returns : goal.returns
returns c = unused_netlists_have_latency_one
