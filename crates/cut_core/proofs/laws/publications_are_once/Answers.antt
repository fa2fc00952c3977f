use Rattle.cut_core.proofs.Histories.{published_once}
use Rattle.cut_core.proofs.laws.publications_are_once.Goals as goal

pub returns : goal.returns
returns c = published_once
