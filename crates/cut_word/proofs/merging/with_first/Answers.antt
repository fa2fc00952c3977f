use Rattle.cut_word.proofs.Tables.{value_at-with_first}
use Rattle.cut_word.proofs.merging.with_first.Goals as goal

pub returns-clause-value : goal.returns-clause-value
returns-clause-value c = value_at-with_first c.args.table c.requires
