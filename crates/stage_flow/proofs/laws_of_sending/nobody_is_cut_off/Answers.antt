use Rattle.stage_flow.proofs.CutOff.{nobody-cut_off}
use Rattle.stage_flow.proofs.laws_of_sending.nobody_is_cut_off.Goals as goal

pub returns : goal.returns
returns c = nobody-cut_off
