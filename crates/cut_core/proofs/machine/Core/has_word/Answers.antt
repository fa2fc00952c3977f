use Rattle.std.proofs.Common.{arith}
use Rattle.cut_core.proofs.CoreRows.{row-read, is_word-row}
use Rattle.cut_core.proofs.machine.Core.has_word.Goals as goal

pub returns-then-place-word_count : goal.returns-then-place-word_count
returns-then-place-word_count c =
    is_word-row c.args.graph.now c.args.node c.index.result.now c.requires.core.proper c.requires.node
    (row-read c.args.graph.now c.args.self.now.states.items c.args.self.now.rows.items c.args.node c.index.result.now c.requires.core.rows c.requires.node c.requires.known c.index.ensures)
    c.args.place c.args.word (omega (arith, c.if-place-word_count.true, c.word_count.ensures.value))
