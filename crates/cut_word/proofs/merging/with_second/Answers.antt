use Rattle.cut_word.proofs.Tables.{value_at-with_second}
use Rattle.cut_word.proofs.merging.with_second.Goals as goal

pub returns-clause-value : goal.returns-clause-value
returns-clause-value c = value_at-with_second c.args.table c.requires
