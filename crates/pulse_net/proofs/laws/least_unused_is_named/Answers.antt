use Rattle.pulse_net.proofs.LeastUnusedIsNamed.{names_the_least}
use Rattle.pulse_net.proofs.laws.least_unused_is_named.Goals as goal

pub returns : goal.returns
returns c = names_the_least
