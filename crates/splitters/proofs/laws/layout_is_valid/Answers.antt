use Rattle.splitters.proofs.valid.Whole.{layout_is_valid}
use Rattle.splitters.proofs.laws.layout_is_valid.Goals as goal

pub returns : goal.returns
returns c = layout_is_valid
