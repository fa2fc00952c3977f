use Rattle.stage_flow.proofs.LeastLengths.{nothing-least}
use Rattle.stage_flow.proofs.laws_of_epochs.nothing_is_least_without_pins.Goals as goal

pub returns : goal.returns
returns c = nothing-least
