use Rattle.std.specs.List.{flat_map}
use Rattle.balance_map.specs.FanOuts.{ref_nodes}
use Rattle.std.proofs.Common.{◌≡◌, ◌-◌, ◌∙◌, false, length, replicate, get_or, sym, ap, subst, arith}
use Rattle.std.proofs.lemmas.List.{get_or_default}
use Rattle.balance_map.specs.Choices.{choice_at, choices_of}
use Rattle.balance_map.specs.Needed.{leaves_used}
use Rattle.balance_map.specs.Walks.{NotesNodes}
use Rattle.balance_map.proofs.Chosen.{length-choices_of}
use Rattle.balance_map.proofs.Downwards.{IsShort, loop-start, loop-next, loop-same, down-last, choice-is, choice-at-short}
use Rattle.balance_map.proofs.needed.needed.Goals as goal

pub loop-node-init : goal.loop-node-init
loop-node-init c =
    loop-start c.args.s.now c.len-node.result c.in_ok-marks.marks.len c.in_ok-marks.marks.items c.as_mut_slice.result.now c.mark_outputs.new.marks c.new-nodes.result.items
    c.len-node.ensures
    (c.as_mut_slice.ensures.value ∙ c.in_ok-marks.ensures.items_if_clones_equal (λ y e. e) ∙ ap (λ n. replicate n false) c.len.ensures)
    c.mark_outputs.auto.marks
    (omega (arith, c.in_ok-marks.marks.ok.0, c.mark_outputs.auto.marks, ap length c.as_mut_slice.ensures.value))
    c.new-nodes.ensures.items
    (subst (λ outputs. NotesNodes c.as_mut_slice.result.now c.mark_outputs.new.marks (flat_map ref_nodes outputs)) c.as_slice.ensures c.mark_outputs.ensures)

pub get-requires : goal.get-requires
get-requires c = omega (arith, c.loop-node-test.true, c.loop-node.auto.node, c.len-node.ensures, ap length c.requires.choices, length-choices_of c.args.s.now 0)

short : (c : goal.After-get) → IsShort c.args.s.now c.get.result.now
short c =
    choice-at-short c.args.s.now c.args.c.now (c.loop-node.node - 1) c.get.result.now c.requires.choices c.get.ensures c.requires.subject.graph
    (omega (arith, c.loop-node-test.true, c.loop-node.auto.node, c.len-node.ensures)) (omega (arith, c.loop-node-test.true))

pub mark_choice-requires-clause-words : goal.mark_choice-requires-clause-words
mark_choice-requires-clause-words c = (short c).words

pub mark_choice-requires-clause-depth : goal.mark_choice-requires-clause-depth
mark_choice-requires-clause-depth c = (short c).shallow

pub loop-node-preserved-then-index : goal.loop-node-preserved-then-index
loop-node-preserved-then-index c =
    let marks = c.loop-node.marks.items in
    let node = c.loop-node.node - 1 in
    let read : get_or marks node false ≡ c.index.result.now = get_or_default marks node false c.index.result.now (omega (arith, c.loop-node-test.true, c.loop-node.auto.node, c.len-node.ensures, c.loop-node.invariant.count)) ∙ sym c.index.ensures in
    let same : c.as_mut_slice-then-index.result.now ≡ marks = c.as_mut_slice-then-index.ensures.value in
    loop-next c.args.s.now c.loop-node.node c.loop-node.marks.len marks c.mark_choice.new.marks c.loop-node.nodes.items c.push.new.self.items
    c.loop-node-test.true (omega (arith, c.loop-node.auto.node, c.len-node.ensures)) (read ∙ c.if-index.true)
    (c.mark_choice.auto.marks ∙ ap length same) c.loop-node.marks.ok.0 c.in_ok-push.ensures.items
    (subst (λ old. NotesNodes old c.mark_choice.new.marks (leaves_used (choice_at (choices_of c.args.s.now) node))) same
    (subst (λ choice. NotesNodes c.as_mut_slice-then-index.result.now c.mark_choice.new.marks (leaves_used choice)) (sym (choice-is c.args.s.now c.args.c.now node c.get.result.now c.requires.choices c.get.ensures)) c.mark_choice.ensures))
    c.loop-node.invariant

pub loop-node-preserved : goal.loop-node-preserved
loop-node-preserved c =
    let marks = c.loop-node.marks.items in
    let node = c.loop-node.node - 1 in
    let read : get_or marks node false ≡ c.index.result.now = get_or_default marks node false c.index.result.now (omega (arith, c.loop-node-test.true, c.loop-node.auto.node, c.len-node.ensures, c.loop-node.invariant.count)) ∙ sym c.index.ensures in
    loop-same c.args.s.now c.loop-node.node marks c.loop-node.nodes.items c.loop-node-test.true (read ∙ c.if-index.false) c.loop-node.invariant

pub returns : goal.returns
returns c = c.reverse.ensures.items ∙ down-last c.args.s.now c.loop-node.node c.loop-node.marks.items c.loop-node.nodes.items c.loop-node-test.false c.loop-node.invariant
