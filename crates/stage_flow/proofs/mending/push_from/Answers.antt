use Rattle.std.proofs.Common.{List, sym, subst, ap, ◌∙◌}
use Rattle.std.specs.List.{flat_map}
use Rattle.std.proofs.lemmas.List.{take_all}
use Rattle.stage_flow.specs.declared.offers.Offer.{Offer}
use Rattle.stage_flow.specs.Passes.{standing}
use Rattle.stage_flow.specs.Mending.{AreAdded}
use Rattle.stage_flow.specs.Waiting.{waiting}
use Rattle.stage_flow.proofs.AddedOffers.{added-more, offers_over, offers_of-nears}
use Rattle.stage_flow.proofs.mending.push_from.Goals as goal

pub loop-near-preserved : goal.loop-near-preserved
loop-near-preserved c =
    added-more (offers_over c.args.vertex c.args.flow.now (standing c.args.far.now c.args.hops.now) c.args.stale.now) c.args.nears.now c.loop-near.near-index (record { other = 0; code = 0 })
    (waiting c.args.queue.now) (waiting c.loop-near.queue) (waiting c.push_over.new.queue)
    c.loop-near-test.true c.loop-near.invariant c.in_ok-push_over.ensures

pub returns : goal.returns
returns c =
    let vertex = c.args.vertex in
    let flow = c.args.flow.now in
    let labels = standing c.args.far.now c.args.hops.now in
    let nears = c.args.nears.now in
    let before = waiting c.args.queue.now in
    let after = waiting c.loop-near.queue in
    subst (λ (offers : List Offer). AreAdded offers before after)
    (ap (flat_map (offers_over vertex flow labels c.args.stale.now)) (take_all c.loop-near.near-index nears c.loop-near-test.false) ∙ sym (offers_of-nears vertex flow labels c.args.stale.now nears))
    c.loop-near.invariant
