use Rattle.gate_net.proofs.CallerLemmas.{value-at}
use Rattle.gate_net.proofs.laws.gates_follow_drivers.Goals as goal

pub returns : goal.returns
returns c = λ net bits gate d formed within. value-at bits net.inputs net.gates gate d formed.gates within
