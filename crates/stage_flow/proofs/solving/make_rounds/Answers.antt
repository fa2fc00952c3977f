use Rattle.std.proofs.Common.{◌≡◌, ◌<◌, ◌+◌, ◌∙◌, ◌-ℤ◌, ℕ, suc, ℤ, pos, length, get_or, map, Some, sym, ap, subst, arith}
use Rattle.std.proofs.lemmas.Int.{ints}
use Rattle.std.proofs.lemmas.List.{get_or_default}
use Rattle.std.proofs.lemmas.Result.{IfOk-weaker}
use Rattle.flow_net.specs.declared.net.Net.{Net}
use Rattle.flow_net.specs.declared.net.Flow.{Flow}
use Rattle.stage_flow.specs.Rounds.{sender, path_of, after_round, flow_after}
use Rattle.stage_flow.specs.LawsOfWalks.{HasUnits}
use Rattle.stage_flow.specs.Given.{IsNetwork, ArePotentials, at_vertex, count_at}
use Rattle.stage_flow.specs.Sending.{way_of}
use Rattle.stage_flow.specs.UnderWay.{sender_in}
use Rattle.stage_flow.specs.Staleness.{AreLeftByRound}
use Rattle.stage_flow.proofs.FreshLabels.{clear-kept, kept-within, kept-negated}
use Rattle.stage_flow.proofs.Round.{sender-low, has_units-sent, after_round-is}
use Rattle.stage_flow.proofs.ProgressNetworks.{vertices-few}
use Rattle.stage_flow.proofs.RoundsSent.{flow-sent, flow-sender, flow-wanted}
use Rattle.stage_flow.proofs.RoundLeft.{round-left}
use Rattle.stage_flow.proofs.solving.make_rounds.Goals as goal

-- the flow after a round more
next : (net : Net) (before after : Flow) (sent : ℕ) → after ≡ after_round net before → before ≡ flow_after net sent → after ≡ flow_after net (sent + 1)
next net before after sent is was = let one : suc sent ≡ sent + 1 = omega arith in is ∙ ap (after_round net) was ∙ ap (flow_after net) one

-- a round is left, by the network that is read
left : (read net : Net) (sent : ℕ) → read ≡ net → sent < read.drivers → sent < net.drivers
left read net sent is = subst (λ (n : Net). sent < n.drivers) is

-- the sender, by the network that is read
sends_by : (read net : Net) (flow : Flow) (sent from : ℕ) → read ≡ net → IsNetwork net → flow ≡ flow_after net sent → sent < net.drivers → from ≡ sender_in read sent → sender net flow ≡ Some from
sends_by read net flow sent from is formed was more reads = flow-sender net formed sent flow was more ∙ ap (λ (n : Net). Some (sender_in n sent)) (sym is) ∙ ap (λ v. Some v) (sym reads)

pub loop-sent-init : goal.loop-sent-init
loop-sent-init c = record {
  few = omega arith;
  flow = c.requires.flow;
  kept = clear-kept c.args.arcs.now c.args.flow.now (at_vertex c.args.first.far) (count_at c.args.first.hops) c.args.mender.now.marks.items c.requires.net c.requires.labels c.requires.none;
  order = c.requires.order;
  room = c.requires.room;
  far = c.requires.each.0;
  hops = c.requires.each.1;
}

pub ready-requires-clause-flow : goal.ready-requires-clause-flow
ready-requires-clause-flow c = (flow-sent c.args.arcs.now c.requires.net c.loop-sent.sent c.loop-sent.flow c.loop-sent.invariant.flow (left c.net-net.result.now c.args.arcs.now c.loop-sent.sent c.net-net.ensures c.loop-sent-test.true)).part

pub ready-requires-clause-wanted : goal.ready-requires-clause-wanted
ready-requires-clause-wanted c = flow-wanted c.args.arcs.now c.requires.net c.loop-sent.sent c.loop-sent.flow c.loop-sent.invariant.flow (left c.net-net.result.now c.args.arcs.now c.loop-sent.sent c.net-net.ensures c.loop-sent-test.true)

pub ready-requires-clause-from : goal.ready-requires-clause-from
ready-requires-clause-from c =
    sender-low c.args.arcs.now c.loop-sent.flow c.sender-from.result
    (sends_by c.net-net.result.now c.args.arcs.now c.loop-sent.flow c.loop-sent.sent c.sender-from.result c.net-net.ensures c.requires.net c.loop-sent.invariant.flow (left c.net-net.result.now c.args.arcs.now c.loop-sent.sent c.net-net.ensures c.loop-sent-test.true) c.sender-from.ensures)

pub send-requires-clause-units : goal.send-requires-clause-units
send-requires-clause-units c =
    record { each = (flow-sent c.args.arcs.now c.requires.net c.loop-sent.sent c.loop-sent.flow c.loop-sent.invariant.flow (left c.net-net.result.now c.args.arcs.now c.loop-sent.sent c.net-net.ensures c.loop-sent-test.true)).part.each }

pub send-requires-clause-sender : goal.send-requires-clause-sender
send-requires-clause-sender c =
    sends_by c.net-net.result.now c.args.arcs.now c.loop-sent.flow c.loop-sent.sent c.sender-from.result c.net-net.ensures c.requires.net c.loop-sent.invariant.flow (left c.net-net.result.now c.args.arcs.now c.loop-sent.sent c.net-net.ensures c.loop-sent-test.true) c.sender-from.ensures

pub send-requires-clause-room : goal.send-requires-clause-room
send-requires-clause-room c k d within =
    let few = (flow-sent c.args.arcs.now c.requires.net c.loop-sent.sent c.loop-sent.flow c.loop-sent.invariant.flow (left c.net-net.result.now c.args.arcs.now c.loop-sent.sent c.net-net.ensures c.loop-sent-test.true)).few k d within in
    let all = vertices-few c.args.arcs.now c.requires.net in
    let more = left c.net-net.result.now c.args.arcs.now c.loop-sent.sent c.net-net.ensures c.loop-sent-test.true in
    (omega (arith, few.0, all, more), omega (arith, few.1, all, more))

pub spoil-requires-clause-units : goal.spoil-requires-clause-units
spoil-requires-clause-units c =
    let net = c.args.arcs.now in
    let flow = c.loop-sent.flow in
    let part = (flow-sent net c.requires.net c.loop-sent.sent flow c.loop-sent.invariant.flow (left c.net-net.result.now c.args.arcs.now c.loop-sent.sent c.net-net.ensures c.loop-sent-test.true)).part in
    let from = sender_in net c.loop-sent.sent in
    let sends = flow-sender net c.requires.net c.loop-sent.sent flow c.loop-sent.invariant.flow (left c.net-net.result.now c.args.arcs.now c.loop-sent.sent c.net-net.ensures c.loop-sent-test.true) in
    let has = subst (HasUnits net) (sym (c.in_ok-send.ensures.ok ∙ after_round-is net flow from sends)) (has_units-sent net (path_of net flow (Some from)) flow (record { each = part.each })) in
    has.each

pub spoil-requires-clause-left : goal.spoil-requires-clause-left
spoil-requires-clause-left c =
    let net = c.args.arcs.now in
    let flow = c.loop-sent.flow in
    let far = at_vertex c.in_ok-labels.labels.far in
    let hops = count_at c.in_ok-labels.labels.hops in
    let marks = c.ready.new.self.marks.items in
    let from = c.sender-from.result in
    let sends : sender net flow ≡ Some from = sends_by c.net-net.result.now net flow c.loop-sent.sent c.sender-from.result c.net-net.ensures c.requires.net c.loop-sent.invariant.flow (left c.net-net.result.now net c.loop-sent.sent c.net-net.ensures c.loop-sent-test.true) c.sender-from.ensures in
    let part = (flow-sent net c.requires.net c.loop-sent.sent flow c.loop-sent.invariant.flow (left c.net-net.result.now c.args.arcs.now c.loop-sent.sent c.net-net.ensures c.loop-sent-test.true)).part in
    let left = round-left net flow far hops marks from c.requires.net part c.in_ok-labels.ensures.kept c.in_ok-labels.ensures.fresh sends in
    let path : map way_of c.as_slice-in-loop-sent.result.now ≡ path_of net flow (Some from) = ap (map way_of) c.as_slice-in-loop-sent.ensures.value ∙ c.in_ok-send.ensures.path in
    subst (λ (f : Flow). AreLeftByRound net f far hops marks from (map way_of c.as_slice-in-loop-sent.result.now)) (sym c.in_ok-send.ensures.ok)
    (subst (AreLeftByRound net (after_round net flow) far hops marks from) (sym path) left)

pub overflow_add-sent : goal.overflow_add-sent
overflow_add-sent c = omega (arith, vertices-few c.args.arcs.now c.requires.net, left c.net-net.result.now c.args.arcs.now c.loop-sent.sent c.net-net.ensures c.loop-sent-test.true)

pub loop-sent-preserved : goal.loop-sent-preserved
loop-sent-preserved c = record {
  few = omega (arith, left c.net-net.result.now c.args.arcs.now c.loop-sent.sent c.net-net.ensures c.loop-sent-test.true);
  flow = next c.args.arcs.now c.loop-sent.flow c.send.new.flow c.loop-sent.sent c.in_ok-send.ensures.ok c.loop-sent.invariant.flow;
  kept = c.in_ok-spoil.ensures.kept;
  order = c.in_ok-spoil.ensures.order;
  room = c.in_ok-send.ensures.reached;
  far = c.in_ok-labels.ensures.each.0;
  hops = c.in_ok-labels.ensures.each.1;
}

pub negated-requires : goal.negated-requires
negated-requires c k d within =
    let net = c.args.arcs.now in
    let labels = c.loop-sent.labels in
    let same : c.as_slice-2.result.now ≡ labels.far = c.as_slice-2.ensures in
    let inside : k < length labels.far = omega (arith, ap length same) in
    let near = kept-within net c.loop-sent.flow (at_vertex labels.far) (count_at labels.hops) c.loop-sent.mender.marks.items c.requires.net c.loop-sent.invariant.kept k (omega (arith, c.loop-sent.invariant.far)) in
    let here : get_or c.as_slice-2.result.now k d ≡ at_vertex labels.far k = ap (λ xs. get_or xs k d) same ∙ get_or_default labels.far k d (pos 0) inside in
    omega (arith, ints, here, near.0)

pub returns-clause-potentials : goal.returns-clause-potentials
returns-clause-potentials c =
    let net = c.args.arcs.now in
    let labels = c.loop-sent.labels in
    let fit = kept-negated net c.loop-sent.flow labels.far (count_at labels.hops) c.loop-sent.mender.marks.items c.requires.net c.loop-sent.invariant.kept c.loop-sent.invariant.far in
    IfOk-weaker c.negated.result (λ list. list ≡ map (λ (z : ℤ). pos 0 -ℤ z) c.as_slice-2.result.now) (λ list. ArePotentials net c.loop-sent.flow list)
    (λ list is. subst (ArePotentials net c.loop-sent.flow) (sym (is ∙ ap (map (λ (z : ℤ). pos 0 -ℤ z)) c.as_slice-2.ensures)) fit)
    c.negated.ensures
