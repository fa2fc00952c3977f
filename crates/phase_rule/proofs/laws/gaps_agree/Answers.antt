use Rattle.phase_rule.proofs.CallerLemmas.{need_gaps_agree}
use Rattle.phase_rule.proofs.laws.gaps_agree.Goals as goal

pub returns : goal.returns
returns c = need_gaps_agree
