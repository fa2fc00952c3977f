use Rattle.std.proofs.Common.{◌∙◌, [], ◌∷◌, sym, ap}
use Rattle.pattern_table.specs.Formula.{table_over}
use Rattle.pattern_table.proofs.CellTables.{table-not, one_pin-other}
use Rattle.pattern_table.proofs.tables.table_of_one.Goals as goal

pub returns-in-Not : goal.returns-in-Not
returns-in-Not c = table-not c.args.part c.ranges.part.fits ∙ ap (λ cell. table_over cell (c.args.part ∷ [])) (sym c.in-Not.is)

pub returns-in_default : goal.returns-in_default
returns-in_default c = one_pin-other c.args.cell c.args.part c.ranges.part.fits c.requires c.in_default.not-Not
