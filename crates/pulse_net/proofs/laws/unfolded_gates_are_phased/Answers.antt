use Rattle.pulse_net.proofs.BalancedUnfolding.{unfolded_gates_are_phased}
use Rattle.pulse_net.proofs.laws.unfolded_gates_are_phased.Goals as goal

pub returns : goal.returns
returns c = unfolded_gates_are_phased
