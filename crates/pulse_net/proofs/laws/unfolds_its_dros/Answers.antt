use Rattle.pulse_net.proofs.UnfoldsItsDros.{unfolds_its_dros}
use Rattle.pulse_net.proofs.laws.unfolds_its_dros.Goals as goal

pub returns : goal.returns
returns c = unfolds_its_dros
