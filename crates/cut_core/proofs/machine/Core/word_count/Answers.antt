use Rattle.std.proofs.Common.{◌≡◌, arith}
use Rattle.cut_lists.specs.Rows.{node_words, row_with}
use Rattle.cut_core.proofs.CoreRows.{row-read, count-row, count-few}
use Rattle.cut_core.proofs.machine.Core.word_count.Goals as goal

row-is : (c : goal.After-index) → c.index.result.now ≡ row_with (node_words c.args.graph.now c.args.node)
row-is c = row-read c.args.graph.now c.args.self.now.states.items c.args.self.now.rows.items c.args.node c.index.result.now c.requires.core.rows c.requires.node c.requires.known c.index.ensures

pub overflow_mul-result : goal.overflow_mul-result
overflow_mul-result c = omega (arith, count-few c.args.graph.now c.args.node c.index.result.now c.requires.core.proper c.requires.node (row-is c))

pub returns-clause-value : goal.returns-clause-value
returns-clause-value c = count-row c.args.graph.now c.args.node c.index.result.now c.requires.core.proper c.requires.node (row-is c)

pub returns-clause-few : goal.returns-clause-few
returns-clause-few c = count-few c.args.graph.now c.args.node c.index.result.now c.requires.core.proper c.requires.node (row-is c)
