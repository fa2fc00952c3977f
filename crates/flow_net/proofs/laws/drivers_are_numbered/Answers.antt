use Rattle.flow_net.proofs.DriverNumbers.{drivers_are_numbered}
use Rattle.flow_net.proofs.laws.drivers_are_numbered.Goals as goal

pub returns : goal.returns
returns c = drivers_are_numbered
