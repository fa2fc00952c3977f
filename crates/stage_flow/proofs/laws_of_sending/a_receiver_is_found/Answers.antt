use Rattle.stage_flow.proofs.ReceiverFound.{a-receiver}
use Rattle.stage_flow.proofs.laws_of_sending.a_receiver_is_found.Goals as goal

pub returns : goal.returns
returns c = a-receiver
