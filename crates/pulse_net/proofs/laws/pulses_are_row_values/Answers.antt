use Rattle.pulse_net.proofs.PulsesAreRowValues.{pulses_are_row_values}
use Rattle.pulse_net.proofs.laws.pulses_are_row_values.Goals as goal

pub returns : goal.returns
returns c = pulses_are_row_values
