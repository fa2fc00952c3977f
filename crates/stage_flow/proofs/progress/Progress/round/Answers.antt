use Rattle.std.proofs.Common.{◌≡◌, ◌-ℤ◌, ◌<◌, ◌∙◌, ℕ, ℤ, pos, List, [], length, get_or, map, Some, refl, sym, ap, subst, arith}
use Rattle.std.proofs.lemmas.Int.{ints}
use Rattle.std.proofs.lemmas.List.{get_or_default}
use Rattle.flow_net.specs.declared.net.Net.{Net}
use Rattle.flow_net.specs.declared.net.Flow.{Flow}
use Rattle.stage_flow.specs.Residual.{vertex_count}
use Rattle.stage_flow.specs.Rounds.{sender, after_round}
use Rattle.stage_flow.specs.Given.{IsNetwork, ArePotentials, at_vertex, count_at}
use Rattle.stage_flow.specs.LawsOfWalks.{AreLabels}
use Rattle.stage_flow.specs.LawsOfSending.{IsPartFlow, SomeMirrorWants}
use Rattle.stage_flow.specs.UnderWay.{sender_in}
use Rattle.stage_flow.proofs.FreshLabels.{clear-kept}
use Rattle.stage_flow.proofs.Labels.{labels-for}
use Rattle.stage_flow.proofs.Round.{ways-low, sender-low, rounds_go_by_labels}
use Rattle.stage_flow.proofs.ProgressNetworks.{vertices-few, ends-among}
use Rattle.stage_flow.proofs.RoundsSent.{flow-sent, flow-sender, flow-wanted}
use Rattle.stage_flow.proofs.ProgressPotentials.{far-within, labels-negated}
use Rattle.stage_flow.proofs.progress.Progress.round.Goals as goal

-- labels on the network that the search read
by_net : (read net : Net) (flow : Flow) (far : List ℤ) (hops : List ℕ) → read ≡ net → AreLabels read flow (at_vertex far) (count_at hops) → AreLabels net flow (at_vertex far) (count_at hops)
by_net read net flow far hops is = subst (λ (n : Net). AreLabels n flow (at_vertex far) (count_at hops)) is

pub find_labels-requires-clause-flow : goal.find_labels-requires-clause-flow
find_labels-requires-clause-flow c =
    let progress = c.args.self.now in
    subst (λ (net : Net). IsPartFlow net progress.flow) (sym c.new-arcs.ensures) (flow-sent c.args.net.now c.requires.net progress.sent progress.flow c.requires.flow c.requires.more).part

pub find_labels-requires-clause-wanted : goal.find_labels-requires-clause-wanted
find_labels-requires-clause-wanted c =
    let net = c.args.net.now in
    let progress = c.args.self.now in
    subst (λ (n : Net). SomeMirrorWants n progress.flow) (sym c.new-arcs.ensures) (flow-wanted net c.requires.net progress.sent progress.flow c.requires.flow c.requires.more)

pub negated-requires : goal.negated-requires
negated-requires c k d within =
    let net = c.args.net.now in
    let labels = c.in_ok-labels.labels in
    let same : c.as_slice.result.now ≡ labels.far = c.as_slice.ensures in
    let inside : k < length labels.far = omega (arith, ap length same) in
    let each : length labels.far ≡ vertex_count net = c.in_ok-labels.ensures.each.0 ∙ ap vertex_count c.new-arcs.ensures in
    let near = far-within net c.args.self.now.flow (at_vertex labels.far) (count_at labels.hops) c.requires.net (by_net c.new-arcs.result c.args.net.now c.args.self.now.flow c.in_ok-labels.labels.far c.in_ok-labels.labels.hops c.new-arcs.ensures c.in_ok-labels.ensures.labels) k (omega (arith, inside, each)) in
    let here : get_or c.as_slice.result.now k d ≡ at_vertex labels.far k = ap (λ xs. get_or xs k d) same ∙ get_or_default labels.far k d (pos 0) inside in
    omega (arith, ints, here, near.0)

pub send-requires-clause-sender : goal.send-requires-clause-sender
send-requires-clause-sender c =
    let net = c.args.net.now in
    let progress = c.args.self.now in
    ap (λ (n : Net). sender n progress.flow) c.new-arcs.ensures
    ∙ flow-sender net c.requires.net progress.sent progress.flow c.requires.flow c.requires.more
    ∙ ap (λ v. Some v) (sym c.sender-from.ensures)

pub send-requires-clause-units : goal.send-requires-clause-units
send-requires-clause-units c =
    let progress = c.args.self.now in
    record { each = (flow-sent c.args.net.now c.requires.net progress.sent progress.flow c.requires.flow c.requires.more).part.each ∙ ap (λ (n : Net). length n.pins) (sym c.new-arcs.ensures) }

pub send-requires-clause-room : goal.send-requires-clause-room
send-requires-clause-room c k d within =
    let net = c.args.net.now in
    let progress = c.args.self.now in
    let few = (flow-sent net c.requires.net progress.sent progress.flow c.requires.flow c.requires.more).few k d within in
    let all = vertices-few net c.requires.net in
    (omega (arith, few.0, all, c.requires.more), omega (arith, few.1, all, c.requires.more))

pub overflow_add-self : goal.overflow_add-self
overflow_add-self c = omega (arith, vertices-few c.args.net.now c.requires.net, c.requires.more)

pub returns-clause-potentials : goal.returns-clause-potentials
returns-clause-potentials c =
    let net = c.args.net.now in
    let progress = c.args.self.now in
    let labels = c.in_ok-labels.labels in
    let are = by_net c.new-arcs.result c.args.net.now c.args.self.now.flow c.in_ok-labels.labels.far c.in_ok-labels.labels.hops c.new-arcs.ensures c.in_ok-labels.ensures.labels in
    let from = sender_in net progress.sent in
    let part = (flow-sent net c.requires.net progress.sent progress.flow c.requires.flow c.requires.more).part in
    let sends = flow-sender net c.requires.net progress.sent progress.flow c.requires.flow c.requires.more in
    let round = rounds_go_by_labels net progress.flow (at_vertex labels.far) (count_at labels.hops) from (ends-among net c.requires.net) (record { each = part.each })
    (labels-for net progress.flow (at_vertex labels.far) (count_at labels.hops) are (ways-low net progress.flow (ends-among net c.requires.net)) from (sender-low net progress.flow from sends)) sends in
    let numbers : c.in_ok-potentials.potentials ≡ map (λ (z : ℤ). pos 0 -ℤ z) labels.far =
    c.in_ok-potentials.ensures ∙ ap (map (λ (z : ℤ). pos 0 -ℤ z)) c.as_slice.ensures in
    let each : length labels.far ≡ vertex_count net = c.in_ok-labels.ensures.each.0 ∙ ap vertex_count c.new-arcs.ensures in
    let fit = labels-negated net progress.flow labels.far (count_at labels.hops) from round.0 c.requires.net are each round.1 in
    subst (λ (flow : Flow). ArePotentials net flow c.in_ok-potentials.potentials) (sym (c.in_ok-send.ensures.ok ∙ ap (λ (n : Net). after_round n progress.flow) c.new-arcs.ensures))
    (subst (ArePotentials net (after_round net progress.flow)) (sym numbers) fit)

pub send-requires-clause-kept : goal.send-requires-clause-kept
send-requires-clause-kept c =
    clear-kept c.new-arcs.result c.args.self.now.flow (at_vertex c.in_ok-labels.labels.far) (count_at c.in_ok-labels.labels.hops) [] (subst IsNetwork (sym c.new-arcs.ensures) c.requires.net) c.in_ok-labels.ensures.labels (λ vertex. refl)
