use Rattle.std.proofs.Common.{◌≡◌, ◌≢◌, ◌<◌, ℕ, ℤ, suc, Bool, List, [], length, ◌∙◌, ap, sym, subst, arith}
use Rattle.std.proofs.lemmas.Result.{IfOk-weaker}
use Rattle.flow_net.specs.declared.net.Net.{Net}
use Rattle.stage_flow.specs.Residual.{vertex_count}
use Rattle.stage_flow.specs.Given.{IsNetwork, ArePotentials, at_vertex, count_at}
use Rattle.stage_flow.specs.LawsOfEpochs.{AreLabelsFromSource}
use Rattle.stage_flow.specs.Passes.{mark_at, IsTarget}
use Rattle.stage_flow.proofs.SourceTarget.{AreTargets, labels-agreed, source-targets}
use Rattle.stage_flow.proofs.search.find_lengths.Goals as goal

pub returns-clause-labels : goal.returns-clause-labels
returns-clause-labels c =
    let same_net = sym c.net-net.ensures in
    let net = c.net-net.result.now in
    let is : IsNetwork net = subst IsNetwork same_net c.requires.net in
    let pins : 0 < length net.pins = subst (λ (n : Net). 0 < length n.pins) same_net c.requires.pins in
    let potentials = subst (λ (n : Net). ArePotentials n c.args.flow.now c.args.potentials.now) same_net c.requires.potentials in
    let flow = c.args.flow.now in
    let starts = c.as_slice-3.result.now in
    let is_start = mark_at starts in
    let some : net.pins ≢ [] = λ none. let e = ap (λ pins. length pins) none in absurd (omega (arith, pins, e)) in
    let same : starts ≡ c.in_ok-starts.starts.items = c.as_slice-3.ensures.value in
    let found : AreTargets net flow is_start =
    source-targets net flow (at_vertex c.args.potentials.now) is_start is some potentials.fits
    (ap (λ (xs : List Bool). mark_at xs 0) same ∙ c.in_ok-starts.ensures.source)
    (λ vertex within. ap (λ (xs : List Bool). mark_at xs (suc vertex)) same ∙ c.in_ok-starts.ensures.others vertex within) in
    IfOk-weaker c.passes.result
    (λ labels. (far : ℕ → ℤ) (hops : ℕ → ℕ) → IsTarget net flow is_start far hops → (vertex : ℕ) → vertex < vertex_count net → (at_vertex labels.far vertex ≡ far vertex) × (count_at labels.hops vertex ≡ hops vertex))
    (λ labels. AreLabelsFromSource c.args.arcs.now flow (at_vertex labels.far) (count_at labels.hops))
    (λ labels finds. subst (λ (n : Net). AreLabelsFromSource n flow (at_vertex labels.far) (count_at labels.hops)) c.net-net.ensures
    (labels-agreed net flow found.far (at_vertex labels.far) found.hops (count_at labels.hops) is found.labels (finds found.far found.hops found.target)))
    c.passes.ensures.come
