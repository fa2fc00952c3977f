use Rattle.pulse_net.proofs.BalancedUnfolding.{unfolded_epochs_are_balanced}
use Rattle.pulse_net.proofs.laws.unfolded_epochs_are_balanced.Goals as goal

pub returns : goal.returns
returns c = unfolded_epochs_are_balanced
