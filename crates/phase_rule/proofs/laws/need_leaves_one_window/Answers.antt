use Rattle.phase_rule.proofs.CallerLemmas.{need_leaves_window}
use Rattle.phase_rule.proofs.laws.need_leaves_one_window.Goals as goal

pub returns : goal.returns
returns c = need_leaves_window
