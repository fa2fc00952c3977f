use Rattle.flow_net.proofs.BalancedEpochs.{earliest-balanced}
use Rattle.flow_net.proofs.laws.earliest_epochs_are_balanced.Goals as goal

pub returns : goal.returns
returns c = earliest-balanced
