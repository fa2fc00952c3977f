use Rattle.phase_rule.proofs.CallerLemmas.{levels_follow_drivers}
use Rattle.phase_rule.proofs.laws.levels_follow_drivers.Goals as goal

pub returns : goal.returns
returns c = levels_follow_drivers
