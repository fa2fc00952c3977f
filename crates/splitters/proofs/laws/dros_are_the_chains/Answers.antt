use Rattle.splitters.proofs.dros.Laid.{dros_are_the_chains}
use Rattle.splitters.proofs.laws.dros_are_the_chains.Goals as goal

pub returns : goal.returns
returns c = dros_are_the_chains
