use Rattle.std.proofs.Common.{◌≡◌, ◌<◌, ◌∙◌, List, length, take, map, ap, arith}
use Rattle.std.proofs.lemmas.List.{take_all}
use Rattle.cut_lists.specs.CutList.{cut_list}
use Rattle.cut_lists.specs.Rows.{IsRowOf}
use Rattle.cut_lists.proofs.CallerLemmas.{length-all_words}
use Rattle.cell_match.specs.declared.matching.Match.{Match}
use Rattle.cell_match.specs.Candidates.{candidates}
use Rattle.balance_map.specs.declared.choice.Choice.{Choice}
use Rattle.balance_map.specs.Choices.{choice_of, best_of, choices_of}
use Rattle.balance_map.proofs.NodeChoices.{row-is, candidates-over, HaveRoom-before, length-before, length-choices_of, choices-more}
use Rattle.balance_map.proofs.choosing.choose_with.Goals as goal

pub row-requires : goal.row-requires
row-requires c = omega (arith, ap length c.requires.rows, length-all_words c.args.s.now.graph, c.len-nodes.ensures, c.loop-node-test.true)

pub matches-requires : goal.matches-requires
matches-requires c =
    let within : c.loop-node.node < length c.args.s.now.graph.nodes = omega (arith, c.len-nodes.ensures, c.loop-node-test.true) in
    (cut_list c.args.s.now.graph c.loop-node.node, row-is c.args.s.now.graph c.args.rows.now c.loop-node.node c.row.result c.requires.subject.graph within c.requires.rows c.row.ensures)

pub best_of-requires : goal.best_of-requires
best_of-requires c =
    let within : c.loop-node.node < length c.args.s.now.graph.nodes = omega (arith, c.len-nodes.ensures, c.loop-node-test.true) in
    let row : IsRowOf (cut_list c.args.s.now.graph c.loop-node.node) c.row.result = row-is c.args.s.now.graph c.args.rows.now c.loop-node.node c.row.result c.requires.subject.graph within c.requires.rows c.row.ensures in
    let before : c.as_slice-in-loop-node.result.now ≡ take c.loop-node.node (choices_of c.args.s.now) = c.as_slice-in-loop-node.ensures.value ∙ c.loop-node.invariant in
    record {
      node = omega (arith, c.requires.subject.graph.few);
      candidates = candidates-over c.args.s.now c.loop-node.node c.as_slice.result.now c.as_slice-in-loop-node.result.now c.requires.subject within (c.as_slice.ensures ∙ c.in_ok-candidates.ensures (cut_list c.args.s.now.graph c.loop-node.node) row) before;
      room = HaveRoom-before c.args.s.now c.loop-node.node c.as_slice-in-loop-node.result.now c.requires.subject (omega arith) before;
      fan_outs = omega (arith, ap length before, length-before c.args.s.now c.loop-node.node (omega arith), c.requires.nodes);
    }

pub loop-node-preserved : goal.loop-node-preserved
loop-node-preserved c =
    let within : c.loop-node.node < length c.args.s.now.graph.nodes = omega (arith, c.len-nodes.ensures, c.loop-node-test.true) in
    let row : IsRowOf (cut_list c.args.s.now.graph c.loop-node.node) c.row.result = row-is c.args.s.now.graph c.args.rows.now c.loop-node.node c.row.result c.requires.subject.graph within c.requires.rows c.row.ensures in
    c.in_ok-push.ensures.items
    ∙ choices-more c.args.s.now c.loop-node.node c.loop-node.choices.items c.best_of.result within c.loop-node.invariant
    (
    c.best_of.ensures c.args.s.now c.requires.counts
    ∙ ap (λ (found : List Match). best_of c.loop-node.node (map (choice_of c.args.s.now c.as_slice-in-loop-node.result.now) found))
    (c.as_slice.ensures ∙ c.in_ok-candidates.ensures (cut_list c.args.s.now.graph c.loop-node.node) row)
    ∙ ap (λ (choices : List Choice). best_of c.loop-node.node (map (choice_of c.args.s.now choices) (candidates (cut_list c.args.s.now.graph c.loop-node.node)))) c.as_slice-in-loop-node.ensures.value
    )

pub returns : goal.returns
returns c =
    c.from_vec.ensures ∙ c.loop-node.invariant
    ∙ take_all c.loop-node.node (choices_of c.args.s.now) (omega (arith, length-choices_of c.args.s.now, c.len-nodes.ensures, c.loop-node-test.false))
