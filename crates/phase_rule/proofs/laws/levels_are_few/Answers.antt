use Rattle.phase_rule.proofs.CallerLemmas.{levels_are_few}
use Rattle.phase_rule.proofs.laws.levels_are_few.Goals as goal

pub returns : goal.returns
returns c = levels_are_few
