use Rattle.stage_flow.proofs.Sent.{no_units-part, sent-part}
use Rattle.stage_flow.proofs.laws_of_sending.units_make_part_flows.Goals as goal

pub returns : goal.returns
returns c = (no_units-part, sent-part)
