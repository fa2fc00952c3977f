use Rattle.pulse_net.proofs.PulsesAreRowValues.{reads_are_row_values}
use Rattle.pulse_net.proofs.laws.reads_are_row_values.Goals as goal

pub returns : goal.returns
returns c = reads_are_row_values
