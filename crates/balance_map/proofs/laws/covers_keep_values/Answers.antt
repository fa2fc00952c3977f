use Rattle.balance_map.proofs.CoverLaws.{covers_keep_values}
use Rattle.balance_map.proofs.laws.covers_keep_values.Goals as goal

pub returns : goal.returns
returns c = covers_keep_values
