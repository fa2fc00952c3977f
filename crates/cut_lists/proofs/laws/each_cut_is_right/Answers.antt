use Rattle.cut_lists.proofs.Rights.{each_cut_right}
use Rattle.cut_lists.proofs.laws.each_cut_is_right.Goals as goal

pub returns : goal.returns
returns c = each_cut_right
