use Rattle.std.proofs.Common.{◌∙◌, [], ◌∷◌, sym, ap}
use Rattle.pattern_table.specs.Formula.{table_over}
use Rattle.pattern_table.proofs.CellTables.{table-and, table-or, two_pins-other}
use Rattle.pattern_table.proofs.tables.table_of_two.Goals as goal

pub returns-in-And : goal.returns-in-And
returns-in-And c =
    table-and c.args.left c.args.right c.ranges.left.fits c.ranges.right.fits ∙ ap (λ cell. table_over cell (c.args.left ∷ c.args.right ∷ [])) (sym c.in-And.is)

pub returns-in-Or : goal.returns-in-Or
returns-in-Or c =
    table-or c.args.left c.args.right c.ranges.left.fits c.ranges.right.fits ∙ ap (λ cell. table_over cell (c.args.left ∷ c.args.right ∷ [])) (sym c.in-Or.is)

pub returns-in_default : goal.returns-in_default
returns-in_default c =
    two_pins-other c.args.cell c.args.left c.args.right c.ranges.left.fits c.ranges.right.fits c.requires c.in_default.not-And c.in_default.not-Or
