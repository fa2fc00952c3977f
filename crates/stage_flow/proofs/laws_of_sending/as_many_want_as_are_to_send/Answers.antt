use Rattle.stage_flow.proofs.StillToSend.{as_many-want}
use Rattle.stage_flow.proofs.laws_of_sending.as_many_want_as_are_to_send.Goals as goal

pub returns : goal.returns
returns c = as_many-want
