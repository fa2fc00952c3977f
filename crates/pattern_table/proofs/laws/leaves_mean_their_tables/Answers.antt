use Rattle.pattern_table.proofs.Meanings.{leaf-means}
use Rattle.pattern_table.proofs.laws.leaves_mean_their_tables.Goals as goal

pub returns : goal.returns
returns c = leaf-means
