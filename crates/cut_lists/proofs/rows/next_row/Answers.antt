use Rattle.std.proofs.Common.{arith}
use Rattle.net_base.specs.declared.graph.GNode.TheVariants.{Neg, Both}
use Rattle.cut_lists.proofs.NodeRows.{node_at, length-before, neg-fan_ins, both-fan_ins}
use Rattle.cut_lists.proofs.rows.next_row.Goals as goal

-- ---- A complement
pub row-a-requires : goal.row-a-requires
row-a-requires c =
    omega (
      arith,
      (node_at c.args.graph.now c.args.i c.get.result.now (Neg c.in-Neg.j) c.get.ensures c.in-Neg.is c.requires.proper c.requires.node).1,
      length-before c.args.graph.now c.args.i c.args.rows.now (omega (arith, c.requires.node)) c.requires.rows,
    )

pub row_of-requires-in-Neg-clause-fan_ins : goal.row_of-requires-in-Neg-clause-fan_ins
row_of-requires-in-Neg-clause-fan_ins c =
    neg-fan_ins c.args.graph.now c.args.i c.in-Neg.j c.get.result.now c.args.rows.now c.row-a.result c.get.ensures c.in-Neg.is c.requires.proper c.requires.node c.requires.rows c.row-a.ensures

-- ---- A conjunction
pub row-requires : goal.row-requires
row-requires c =
    let there = node_at c.args.graph.now c.args.i c.get.result.now (Both c.in-Both.j c.in-Both.k) c.get.ensures c.in-Both.is c.requires.proper c.requires.node in
    omega (arith, there.1, there.2, length-before c.args.graph.now c.args.i c.args.rows.now (omega (arith, c.requires.node)) c.requires.rows)

pub row-requires-in-Both : goal.row-requires-in-Both
row-requires-in-Both c =
    let there = node_at c.args.graph.now c.args.i c.get.result.now (Both c.in-Both.j c.in-Both.k) c.get.ensures c.in-Both.is c.requires.proper c.requires.node in
    omega (arith, there.2, length-before c.args.graph.now c.args.i c.args.rows.now (omega (arith, c.requires.node)) c.requires.rows)

pub row_of-requires-in-Both-clause-fan_ins : goal.row_of-requires-in-Both-clause-fan_ins
row_of-requires-in-Both-clause-fan_ins c =
    both-fan_ins c.args.graph.now c.args.i c.in-Both.j c.in-Both.k c.get.result.now c.args.rows.now c.row.result c.row-in-Both.result c.get.ensures c.in-Both.is c.requires.proper c.requires.node c.requires.rows
    c.row.ensures c.row-in-Both.ensures
