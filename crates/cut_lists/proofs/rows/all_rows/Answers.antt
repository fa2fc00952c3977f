use Rattle.std.proofs.Common.{◌∙◌, arith}
use Rattle.std.proofs.lemmas.List.{take_all}
use Rattle.cut_lists.specs.Rows.{all_words}
use Rattle.cut_lists.proofs.NodeRows.{len-node, length-all_words, rows-more}
use Rattle.cut_lists.proofs.rows.all_rows.Goals as goal

pub push-requires : goal.push-requires
push-requires c = len-node c.args.graph.now c.loop-i.i c.next_row-row.result c.requires (omega (arith, c.len-i-end.ensures)) c.next_row-row.ensures

pub loop-i-preserved : goal.loop-i-preserved
loop-i-preserved c =
    c.in_ok-push.ensures.ok
    ∙ rows-more c.args.graph.now c.loop-i.i c.loop-i.rows c.next_row-row.result c.requires (omega (arith, c.len-i-end.ensures)) c.loop-i.invariant c.next_row-row.ensures

pub returns : goal.returns
returns c = c.loop-i.invariant ∙ take_all c.loop-i.i (all_words c.args.graph.now) (omega (arith, c.len-i-end.ensures, length-all_words c.args.graph.now))
