use Rattle.std.proofs.Common.{◌≡◌, ◌<◌, ◌+◌, List, length, get_or, take, drop, ◌++◌, sym, ap, subst, arith}
use Rattle.std.proofs.lemmas.List.{take_at}
use Rattle.gate_net.specs.declared.row.Driver.{Driver}
use Rattle.balance_map.specs.Needed.{needed_nodes}
use Rattle.balance_map.specs.Cover.{Driven}
use Rattle.balance_map.proofs.Chosen.{length-choices_of}
use Rattle.balance_map.proofs.CoverSteps.{HasCovered, node-low, cover-all, loop-short, loop-ready, loop-room, loop-count, loop-next, loop-many}
use Rattle.balance_map.proofs.covering.cover_nodes.Goals as goal

pub get-requires : goal.get-requires
get-requires c =
    let subject = c.args.s.now in
    let place = c.loop-node.node-index in
    let nodes = c.loop-node.invariant.nodes' in
    let low : get_or (needed_nodes subject) place 0 < length subject.graph.nodes = node-low subject c.requires.subject.graph place (omega (arith, ap length nodes, c.loop-node-test.true)) in
    omega (arith, low, ap (λ ns. get_or ns place 0) nodes, ap length c.requires.choices, length-choices_of subject 0)

pub cover_node-requires-clause-words : goal.cover_node-requires-clause-words
cover_node-requires-clause-words c =
    (loop-short c.args.s.now c.requires.subject.graph c.args.net.now c.args.most c.loop-node.node-index c.as_slice-node-items.result.now c.loop-node.net c.loop-node.drivers.items c.as_mut_slice.result.now c.args.c.now c.get.result.now
    c.requires.net c.loop-node-test.true c.loop-node.invariant c.as_mut_slice.ensures.value c.requires.choices c.get.ensures).words

pub cover_node-requires-clause-ready : goal.cover_node-requires-clause-ready
cover_node-requires-clause-ready c =
    loop-ready c.args.s.now c.requires.subject.graph c.args.net.now c.args.most c.loop-node.node-index c.as_slice-node-items.result.now c.loop-node.net c.loop-node.drivers.items c.as_mut_slice.result.now c.args.c.now c.get.result.now
    c.requires.net c.loop-node-test.true c.loop-node.invariant c.as_mut_slice.ensures.value c.requires.choices c.get.ensures

pub cover_node-requires-clause-room : goal.cover_node-requires-clause-room
cover_node-requires-clause-room c =
    loop-room c.args.s.now c.requires.subject.graph c.args.net.now c.args.most c.loop-node.node-index c.as_slice-node-items.result.now c.loop-node.net c.loop-node.drivers.items c.as_mut_slice.result.now c.args.c.now c.get.result.now
    c.requires.net c.loop-node-test.true c.loop-node.invariant c.as_mut_slice.ensures.value c.requires.choices c.get.ensures

pub cover_node-requires-clause-node : goal.cover_node-requires-clause-node
cover_node-requires-clause-node c =
    loop-count c.args.s.now c.requires.subject.graph c.args.net.now c.args.most c.loop-node.node-index c.as_slice-node-items.result.now c.loop-node.net c.loop-node.drivers.items c.as_mut_slice.result.now c.args.c.now c.get.result.now
    c.requires.net c.loop-node-test.true c.loop-node.invariant c.as_mut_slice.ensures.value c.requires.choices c.get.ensures

pub returns-then-len-most-clause-many : goal.returns-then-len-most-clause-many
returns-then-len-most-clause-many c = λ e.
    loop-many c.args.s.now c.requires.subject.graph c.args.net.now c.args.most c.loop-node.node-index c.as_slice-node-items.result.now c.loop-node.net c.loop-node.drivers.items c.as_mut_slice.result.now c.args.c.now c.get.result.now
    c.requires.net c.loop-node-test.true c.loop-node.invariant c.as_mut_slice.ensures.value c.requires.choices c.get.ensures
    c.cover_node.new.net c.cover_node.new.drivers c.in_ok-cover_node.ensures.ok (omega (arith, c.if-len-most.true, c.len-in-loop-node.ensures))

pub loop-node-preserved : goal.loop-node-preserved
loop-node-preserved c =
    let written = c.cover_node.new.drivers in
    let same : c.as_mut_slice.result.now ≡ c.loop-node.drivers.items = c.as_mut_slice.ensures.value in
    let back : take c.loop-node.drivers.len (written ++ drop (length written) c.loop-node.drivers.items) ≡ written =
    take_at written (drop (length written) c.loop-node.drivers.items) c.loop-node.drivers.len (omega (arith, c.cover_node.auto.drivers, ap length same, c.loop-node.drivers.ok.0)) in
    subst (λ (ds : List Driver). HasCovered c.args.s.now c.args.net.now c.args.most (c.loop-node.node-index + 1) c.as_slice-node-items.result.now c.cover_node.new.net ds) (sym back)
    (loop-next c.args.s.now c.requires.subject.graph c.args.net.now c.args.most c.loop-node.node-index c.as_slice-node-items.result.now c.loop-node.net c.loop-node.drivers.items c.as_mut_slice.result.now c.args.c.now c.get.result.now
    c.requires.net c.loop-node-test.true c.loop-node.invariant c.as_mut_slice.ensures.value c.requires.choices c.get.ensures
    c.cover_node.new.net written c.in_ok-cover_node.ensures.ok c.in_ok-cover_node.ensures.rest c.in_ok-cover_node.ensures.net (omega (arith, c.if-len-most.false, c.len-in-loop-node.ensures)))

pub returns-clause-gates : goal.returns-clause-gates
returns-clause-gates c =
    cover-all c.args.s.now c.requires.subject.graph c.args.net.now c.args.most c.loop-node.node-index c.as_slice-node-items.result.now c.loop-node.net c.loop-node.drivers.items
    (omega (arith, ap length c.loop-node.invariant.nodes', c.loop-node-test.false)) c.loop-node.invariant

pub returns-clause-few : goal.returns-clause-few
returns-clause-few c =
    let all =
    cover-all c.args.s.now c.requires.subject.graph c.args.net.now c.args.most c.loop-node.node-index c.as_slice-node-items.result.now c.loop-node.net c.loop-node.drivers.items
    (omega (arith, ap length c.loop-node.invariant.nodes', c.loop-node-test.false)) c.loop-node.invariant in
    omega (arith, ap (λ (so : Driven (List Driver)). length so.gates) all, c.loop-node.invariant.few)
