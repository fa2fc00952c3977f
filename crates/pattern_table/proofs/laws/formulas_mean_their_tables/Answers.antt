use Rattle.pattern_table.proofs.Meanings.{formula-means}
use Rattle.pattern_table.proofs.laws.formulas_mean_their_tables.Goals as goal

pub returns : goal.returns
returns c = formula-means
