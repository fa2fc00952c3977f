use Rattle.gate_net.proofs.CallerLemmas.{IsGateNet-push}
use Rattle.gate_net.proofs.laws.added_gates_keep_nets.Goals as goal

pub returns : goal.returns
returns c = IsGateNet-push
