use Rattle.std.proofs.Common.{◌≡◌, ◌<◌, ◌^◌, ◌∙◌, ℤ, List, length, ap, sym, subst}
use Rattle.flow_net.specs.declared.net.Net.{Net}
use Rattle.stage_flow.specs.Residual.{vertex_count}
use Rattle.stage_flow.specs.Given.{at_vertex, count_at}
use Rattle.stage_flow.specs.Passes.{SayWhoWants}
use Rattle.stage_flow.specs.Mending.{AreRightOutside}
use Rattle.stage_flow.specs.Beginning.{AreAtMost}
use Rattle.stage_flow.proofs.ProgressNetworks.{vertices-few}
use Rattle.stage_flow.proofs.FirstLabels.{begun-right}
use Rattle.stage_flow.proofs.search.find_labels.Goals as goal

pub marked-requires-clause-few : goal.marked-requires-clause-few
marked-requires-clause-few c = subst (λ (n : Net). vertex_count n < 2 ^ 32) (sym c.net-net.ensures) (vertices-few c.args.arcs.now c.requires.net)

pub settle-requires-clause-right : goal.settle-requires-clause-right
settle-requires-clause-right c =
    let net = c.args.arcs.now in
    let flow = c.args.flow.now in
    let marks = c.as_slice-wanting.result.now in
    let far = c.in_ok-labels.labels.far in
    let hops = c.in_ok-labels.labels.hops in
    let read = c.as_slice-wanting.ensures.value in
    let each : length marks ≡ vertex_count net = ap length read ∙ c.in_ok-wanting.ensures.each ∙ ap vertex_count c.net-net.ensures in
    let says = subst (SayWhoWants net flow) (sym read) (subst (λ (n : Net). SayWhoWants n flow c.in_ok-wanting.wanting.items) c.net-net.ensures c.in_ok-wanting.ensures.wants) in
    let most = subst (λ (numbers : List ℤ). AreAtMost marks numbers far hops) c.as_slice.ensures c.in_ok-labels.ensures.most in
    subst (AreRightOutside net flow (at_vertex far) (count_at hops)) (sym c.as_mut_slice.ensures.value)
    (begun-right net flow c.requires.net marks each says c.args.potentials.now c.requires.potentials far hops most c.in_ok-stale.stale.items c.in_ok-stale.ensures.others)
