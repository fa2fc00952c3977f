use Rattle.pattern_table.proofs.LeastOfAll.{least_formula-least}
use Rattle.pattern_table.proofs.laws.least_formulas_are_least.Goals as goal

pub returns : goal.returns
returns c = least_formula-least
