use Rattle.gate_net.proofs.OrderLemmas.{ascending_keeps_drivers}
use Rattle.gate_net.proofs.laws.ascending_keeps_drivers.Goals as goal

pub returns : goal.returns
returns c = ascending_keeps_drivers
