use Rattle.std.proofs.Common.{◌∙◌, [], ◌∷◌, ap, arith}
use Rattle.net_base.specs.declared.graph.GNode.TheVariants.{Inp, Neg, Both}
use Rattle.cut_word.specs.Cut.{CutView}
use Rattle.cut_lists.specs.CutList.{cut_list}
use Rattle.cut_lists.specs.Rows.{words_of, row_with}
use Rattle.cut_lists.proofs.NodeRows.{node_at, row_at, neg-row, both-rows}
use Rattle.cut_lists.proofs.node.row_of.Goals as goal

-- ---- A complement
pub negated_row-requires-clause-row : goal.negated_row-requires-clause-row
negated_row-requires-clause-row c = (
  cut_list c.args.graph.now c.in-Neg.j,
  neg-row c.args.graph.now c.args.i c.in-Neg.j c.get.result.now c.args.a.now c.args.b.now c.get.ensures c.in-Neg.is c.requires.proper c.requires.node c.requires.fan_ins,
)

pub returns-in-Neg : goal.returns-in-Neg
returns-in-Neg c =
    c.negated_row.ensures (cut_list c.args.graph.now c.in-Neg.j)
    (neg-row c.args.graph.now c.args.i c.in-Neg.j c.get.result.now c.args.a.now c.args.b.now c.get.ensures c.in-Neg.is c.requires.proper c.requires.node c.requires.fan_ins)
    ∙ row_at c.args.graph.now c.args.i c.get.result.now (Neg c.in-Neg.j) c.get.ensures c.in-Neg.is c.requires.proper c.requires.node

-- ---- A conjunction
pub merged_row-requires-clause-fan_ins : goal.merged_row-requires-clause-fan_ins
merged_row-requires-clause-fan_ins c =
    let there = node_at c.args.graph.now c.args.i c.get.result.now (Both c.in-Both.j c.in-Both.k) c.get.ensures c.in-Both.is c.requires.proper c.requires.node in
    (omega (arith, there.1, there.2, c.requires.node, c.requires.proper.few), omega (arith, there.2, c.requires.node, c.requires.proper.few))

pub merged_row-requires-clause-first : goal.merged_row-requires-clause-first
merged_row-requires-clause-first c = (
  cut_list c.args.graph.now c.in-Both.j,
  (both-rows c.args.graph.now c.args.i c.in-Both.j c.in-Both.k c.get.result.now c.args.a.now c.args.b.now c.get.ensures c.in-Both.is c.requires.proper c.requires.node c.requires.fan_ins).0,
)

pub merged_row-requires-clause-second : goal.merged_row-requires-clause-second
merged_row-requires-clause-second c = (
  cut_list c.args.graph.now c.in-Both.k,
  (both-rows c.args.graph.now c.args.i c.in-Both.j c.in-Both.k c.get.result.now c.args.a.now c.args.b.now c.get.ensures c.in-Both.is c.requires.proper c.requires.node c.requires.fan_ins).1,
)

pub returns-in-Both : goal.returns-in-Both
returns-in-Both c =
    let rows = both-rows c.args.graph.now c.args.i c.in-Both.j c.in-Both.k c.get.result.now c.args.a.now c.args.b.now c.get.ensures c.in-Both.is c.requires.proper c.requires.node c.requires.fan_ins in
    c.merged_row.ensures (cut_list c.args.graph.now c.in-Both.j) (cut_list c.args.graph.now c.in-Both.k) rows.0 rows.1
    ∙ row_at c.args.graph.now c.args.i c.get.result.now (Both c.in-Both.j c.in-Both.k) c.get.ensures c.in-Both.is c.requires.proper c.requires.node

-- ---- An input
pub returns-in-Inp : goal.returns-in-Inp
returns-in-Inp c =
    c.row_with_cuts.ensures ∙ ap (λ (cut : CutView). row_with (words_of (cut ∷ []))) c.trivial.ensures.value
    ∙ row_at c.args.graph.now c.args.i c.get.result.now (Inp c.in-Inp.field-0) c.get.ensures c.in-Inp.is c.requires.proper c.requires.node
