use Rattle.splitters.proofs.ChainsCanBeSplit.{chains_can_be_split}
use Rattle.splitters.proofs.laws.chains_can_be_split.Goals as goal

pub returns : goal.returns
returns c = chains_can_be_split
