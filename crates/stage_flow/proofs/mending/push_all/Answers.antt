use Rattle.std.proofs.Common.{◌≡◌, ◌<◌, ℕ, ℤ, List, All, get_or, sym, subst}
use Rattle.stage_flow.specs.declared.offers.Offer.{Offer}
use Rattle.stage_flow.specs.Residual.{vertex_count}
use Rattle.stage_flow.specs.Sending.{ways_by, ways_near}
use Rattle.stage_flow.specs.Passes.{standing}
use Rattle.stage_flow.specs.Mending.{AreAdded, IsOfferedBy, offers_of}
use Rattle.stage_flow.specs.Waiting.{waiting}
use Rattle.stage_flow.proofs.SendingSearch.{row-ways}
use Rattle.stage_flow.proofs.AddedOffers.{added-more, row-offered}
use Rattle.stage_flow.proofs.mending.push_all.Goals as goal

pub at-nears-requires : goal.at-nears-requires
at-nears-requires c =
    c.requires.vertices c.loop-vertex.vertex-index 0 c.loop-vertex-test.true

pub push_from-requires : goal.push_from-requires
push_from-requires c =
    let vertex = get_or c.args.vertices.now c.loop-vertex.vertex-index 0 in
    let low : vertex < vertex_count c.args.arcs.now = c.requires.vertices c.loop-vertex.vertex-index 0 c.loop-vertex-test.true in
    let offered = row-offered c.args.arcs.now c.args.flow.now c.args.labels.now.far c.args.labels.now.hops c.args.stale.now c.requires.net c.requires.held vertex c.at-nears.result.now low c.at-nears.ensures in
    subst (λ (xs : List ℤ). All (IsOfferedBy c.args.flow.now xs c.as_slice-hops.result.now vertex) c.at-nears.result.now) (sym c.as_slice-far.ensures)
    (subst (λ (xs : List ℕ). All (IsOfferedBy c.args.flow.now c.args.labels.now.far xs vertex) c.at-nears.result.now) (sym c.as_slice-hops.ensures) offered)

pub loop-vertex-preserved : goal.loop-vertex-preserved
loop-vertex-preserved c =
    let net = c.args.arcs.now in
    let flow = c.args.flow.now in
    let far = c.args.labels.now.far in
    let hops = c.args.labels.now.hops in
    let stale = c.args.stale.now in
    let vertex = get_or c.args.vertices.now c.loop-vertex.vertex-index 0 in
    let low : vertex < vertex_count net = c.requires.vertices c.loop-vertex.vertex-index 0 c.loop-vertex-test.true in
    let ways : ways_by vertex flow c.at-nears.result.now ≡ ways_near net flow vertex = row-ways net flow vertex c.at-nears.result.now c.at-nears.ensures in
    let same : offers_of (standing c.as_slice-far.result.now c.as_slice-hops.result.now) stale (ways_by vertex flow c.at-nears.result.now) ≡ offers_of (standing far hops) stale (ways_near net flow vertex) =
    λ i. offers_of (standing (c.as_slice-far.ensures i) (c.as_slice-hops.ensures i)) stale (ways i) in
    added-more (λ vertex. offers_of (standing far hops) stale (ways_near net flow vertex)) c.args.vertices.now c.loop-vertex.vertex-index 0
    (waiting c.args.queue.now) (waiting c.loop-vertex.queue) (waiting c.push_from.new.queue)
    c.loop-vertex-test.true c.loop-vertex.invariant
    (subst (λ (offers : List Offer). AreAdded offers (waiting c.loop-vertex.queue) (waiting c.push_from.new.queue)) same c.in_ok-push_from.ensures)
