use Rattle.pulse_net.proofs.BalancedUnfolding.{no_netlist_has_fewer_dros}
use Rattle.pulse_net.proofs.laws.no_netlist_has_fewer_dros.Goals as goal

pub returns : goal.returns
returns c = no_netlist_has_fewer_dros
