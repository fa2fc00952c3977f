use Rattle.stage_flow.proofs.LeastLengths.{farthest-least}
use Rattle.stage_flow.proofs.laws_of_epochs.longest_lengths_are_least_epochs.Goals as goal

pub returns : goal.returns
returns c = farthest-least
