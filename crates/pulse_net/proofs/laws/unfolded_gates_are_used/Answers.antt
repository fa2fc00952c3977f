use Rattle.pulse_net.proofs.EachGateIsUsed.{each_gate_is_used}
use Rattle.pulse_net.proofs.laws.unfolded_gates_are_used.Goals as goal

pub returns : goal.returns
returns c = each_gate_is_used
