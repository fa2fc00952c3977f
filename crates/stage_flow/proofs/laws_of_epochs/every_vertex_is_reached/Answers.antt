use Rattle.stage_flow.proofs.Supply.{all-reached}
use Rattle.stage_flow.proofs.laws_of_epochs.every_vertex_is_reached.Goals as goal

pub returns : goal.returns
returns c = all-reached
