use Rattle.std.proofs.Common.{◌≡◌, ◌≢◌, ◌<◌, ◌∙◌, ℕ, ℤ, List, [], pos, ap, sym, subst}
use Rattle.std.proofs.lemmas.Result.{IfOk-weaker}
use Rattle.flow_net.specs.declared.net.Net.{Net}
use Rattle.flow_net.specs.declared.net.Flow.{Flow}
use Rattle.flow_net.specs.declared.net.Epochs.{Epochs}
use Rattle.flow_net.specs.Epochs.{epoch_at, dro_count}
use Rattle.flow_net.specs.Flows.{flow_value}
use Rattle.stage_flow.specs.Residual.{vertex_count}
use Rattle.stage_flow.specs.LeastEpochs.{AreLeastEpochs}
use Rattle.stage_flow.specs.Given.{at_vertex, count_at}
use Rattle.stage_flow.specs.LawsOfEpochs.{AreLabelsFromSource, rise_to, epochs_by}
use Rattle.stage_flow.specs.RoundEpochs.{epochs_of_nothing}
use Rattle.stage_flow.proofs.SolvingEpochs.{found-by_lengths, rises-few, found-nothing}
use Rattle.stage_flow.proofs.solving.least_epochs.Goals as goal

-- labels on the network that the search read
by_net : (read net : Net) (flow : Flow) (far : List ℤ) (hops : List ℕ) → read ≡ net → AreLabelsFromSource read flow (at_vertex far) (count_at hops) → AreLabelsFromSource net flow (at_vertex far) (count_at hops)
by_net read net flow far hops is = subst (λ (n : Net). AreLabelsFromSource n flow (at_vertex far) (count_at hops)) is

pub epochs_from-requires-clause-low : goal.epochs_from-requires-clause-low
epochs_from-requires-clause-low c =
    let net = c.args.net.now in
    let labels = c.in_ok-labels.labels in
    let some : net.pins ≢ [] = λ none. let t = c.is_empty.ensures.1 none in absurd (cc (c.if-is_empty.false)) in
    let few = rises-few net c.args.rounds.now.flow (at_vertex labels.far) (count_at labels.hops) c.requires.net some c.requires.full (by_net c.new-arcs.result net c.args.rounds.now.flow labels.far labels.hops c.new-arcs.ensures c.in_ok-labels.ensures.labels) in
    λ vertex within. subst (λ list. rise_to (at_vertex list) vertex < 4294967296) (sym c.as_slice.ensures) (few vertex within)

pub returns-clause-epochs : goal.returns-clause-epochs
returns-clause-epochs c =
    let net = c.args.net.now in
    let labels = c.in_ok-labels.labels in
    let some : net.pins ≢ [] = λ none. let t = c.is_empty.ensures.1 none in absurd (cc (c.if-is_empty.false)) in
    let found = found-by_lengths net c.args.rounds.now.flow (at_vertex labels.far) (count_at labels.hops) c.requires.net some c.requires.full (by_net c.new-arcs.result net c.args.rounds.now.flow labels.far labels.hops c.new-arcs.ensures c.in_ok-labels.ensures.labels) in
    IfOk-weaker c.epochs_from.result (λ epochs. epochs ≡ epochs_by net (at_vertex c.as_slice.result.now)) (λ epochs. AreLeastEpochs net epochs)
    (λ epochs is. subst (AreLeastEpochs net) (sym (is ∙ ap (λ list. epochs_by net (at_vertex list)) c.as_slice.ensures)) found.least)
    c.epochs_from.ensures

pub returns-clause-value : goal.returns-clause-value
returns-clause-value c =
    let net = c.args.net.now in
    let flow = c.args.rounds.now.flow in
    let labels = c.in_ok-labels.labels in
    let some : net.pins ≢ [] = λ none. let t = c.is_empty.ensures.1 none in absurd (cc (c.if-is_empty.false)) in
    let found = found-by_lengths net flow (at_vertex labels.far) (count_at labels.hops) c.requires.net some c.requires.full (by_net c.new-arcs.result net flow labels.far labels.hops c.new-arcs.ensures c.in_ok-labels.ensures.labels) in
    IfOk-weaker c.epochs_from.result (λ epochs. epochs ≡ epochs_by net (at_vertex c.as_slice.result.now)) (λ epochs. flow_value net flow ≡ pos (dro_count net epochs))
    (λ epochs is. subst (λ (e : Epochs). flow_value net flow ≡ pos (dro_count net e)) (sym (is ∙ ap (λ list. epochs_by net (at_vertex list)) c.as_slice.ensures)) found.value)
    c.epochs_from.ensures

pub returns-clause-low : goal.returns-clause-low
returns-clause-low c =
    let net = c.args.net.now in
    let flow = c.args.rounds.now.flow in
    let labels = c.in_ok-labels.labels in
    let some : net.pins ≢ [] = λ none. let t = c.is_empty.ensures.1 none in absurd (cc (c.if-is_empty.false)) in
    let found = found-by_lengths net flow (at_vertex labels.far) (count_at labels.hops) c.requires.net some c.requires.full (by_net c.new-arcs.result net flow labels.far labels.hops c.new-arcs.ensures c.in_ok-labels.ensures.labels) in
    IfOk-weaker c.epochs_from.result (λ epochs. epochs ≡ epochs_by net (at_vertex c.as_slice.result.now)) (λ epochs. (vertex : ℕ) → epoch_at epochs vertex < vertex_count net)
    (λ epochs is. subst (λ (e : Epochs). (vertex : ℕ) → epoch_at e vertex < vertex_count net) (sym (is ∙ ap (λ list. epochs_by net (at_vertex list)) c.as_slice.ensures)) found.low)
    c.epochs_from.ensures

-- ---- Without a pin
pub returns-then-is_empty-clause-epochs : goal.returns-then-is_empty-clause-epochs
returns-then-is_empty-clause-epochs c =
    let net = c.args.net.now in
    let found = found-nothing net c.args.rounds.now.flow (c.is_empty.ensures.0 c.if-is_empty.true) in
    IfOk-weaker c.epochs_without_pins.result (λ epochs. epochs ≡ epochs_of_nothing net) (λ epochs. AreLeastEpochs net epochs)
    (λ epochs is. subst (AreLeastEpochs net) (sym is) found.least) c.epochs_without_pins.ensures

pub returns-then-is_empty-clause-value : goal.returns-then-is_empty-clause-value
returns-then-is_empty-clause-value c =
    let net = c.args.net.now in
    let flow = c.args.rounds.now.flow in
    let found = found-nothing net flow (c.is_empty.ensures.0 c.if-is_empty.true) in
    IfOk-weaker c.epochs_without_pins.result (λ epochs. epochs ≡ epochs_of_nothing net) (λ epochs. flow_value net flow ≡ pos (dro_count net epochs))
    (λ epochs is. subst (λ (e : Epochs). flow_value net flow ≡ pos (dro_count net e)) (sym is) found.value) c.epochs_without_pins.ensures

pub returns-then-is_empty-clause-low : goal.returns-then-is_empty-clause-low
returns-then-is_empty-clause-low c =
    let net = c.args.net.now in
    let found = found-nothing net c.args.rounds.now.flow (c.is_empty.ensures.0 c.if-is_empty.true) in
    IfOk-weaker c.epochs_without_pins.result (λ epochs. epochs ≡ epochs_of_nothing net) (λ epochs. (vertex : ℕ) → epoch_at epochs vertex < vertex_count net)
    (λ epochs is. subst (λ (e : Epochs). (vertex : ℕ) → epoch_at e vertex < vertex_count net) (sym is) found.low) c.epochs_without_pins.ensures
