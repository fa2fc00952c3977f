use Rattle.splitters.proofs.unfolds.Whole.{chains_unfold}
use Rattle.splitters.proofs.laws.chains_unfold.Goals as goal

pub returns : goal.returns
returns c = chains_unfold
