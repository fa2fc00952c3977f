use Rattle.pulse_net.proofs.UnbrokenIsWired.{unbroken_is_wired}
use Rattle.pulse_net.proofs.laws.unbroken_is_wired.Goals as goal

pub returns : goal.returns
returns c = unbroken_is_wired
