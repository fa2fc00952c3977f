use Rattle.blif_model.proofs.Values.{values_follow_tables}
use Rattle.blif_model.proofs.laws.values_follow_tables.Goals as goal

pub returns : goal.returns
returns c = values_follow_tables
