use Rattle.splitters.proofs.valid.Timing.{chains_are_valid}
use Rattle.splitters.proofs.laws.chains_are_valid.Goals as goal

pub returns : goal.returns
returns c = chains_are_valid
