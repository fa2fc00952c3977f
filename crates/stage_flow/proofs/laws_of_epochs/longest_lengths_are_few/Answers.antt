use Rattle.stage_flow.proofs.LeastLengths.{farthest-few}
use Rattle.stage_flow.proofs.laws_of_epochs.longest_lengths_are_few.Goals as goal

pub returns : goal.returns
returns c = farthest-few
