use Rattle.pulse_net.proofs.PulsesAreGateValues.{pulses_are_gate_values}
use Rattle.pulse_net.proofs.laws.pulses_are_gate_values.Goals as goal

pub returns : goal.returns
returns c = pulses_are_gate_values
