use Rattle.pattern_table.proofs.CellTables.{table-maj}
use Rattle.pattern_table.proofs.tables.majority.Goals as goal

pub returns : goal.returns
returns c = table-maj c.args.left c.args.middle c.args.right c.ranges.left.fits c.ranges.middle.fits c.ranges.right.fits
