use Rattle.splitters.proofs.dros.Count.{dros_are_the_count}
use Rattle.splitters.proofs.laws.dros_are_the_count.Goals as goal

pub returns : goal.returns
returns c = dros_are_the_count
