use Rattle.std.proofs.Common.{◌≡◌, ◌<◌, ◌∙◌, ◌++◌, ℕ, ℤ, List, length, set, All, ap, sym, subst, arith}
use Rattle.std.specs.List.{flat_map}
use Rattle.std.specs.Vec.{with_items}
use Rattle.std.proofs.lemmas.List.{with_items_is}
use Rattle.std.proofs.lemmas.List.Sorted.{IsPermutation-refl}
use Rattle.stage_flow.specs.declared.offers.Offer.{Offer}
use Rattle.stage_flow.specs.Residual.{vertex_count}
use Rattle.stage_flow.specs.Given.{at_vertex, count_at}
use Rattle.stage_flow.specs.LawsOfWalks.{label, AreLabels}
use Rattle.stage_flow.specs.Sending.{ways_by, ways_near}
use Rattle.stage_flow.specs.Passes.{standing}
use Rattle.stage_flow.specs.Mending.{AreAdded, IsOfferedBy, offers_of}
use Rattle.stage_flow.specs.Waiting.{waiting}
use Rattle.stage_flow.proofs.SendingSearch.{row-ways}
use Rattle.stage_flow.proofs.Halfway.{IsHalfway, marked-low, none-stale, all-right, halfway-held}
use Rattle.stage_flow.proofs.AddedOffers.{row-offered}
use Rattle.stage_flow.proofs.HalfwaySteps.{halfway-first, halfway-next, right-exist, stale_count, stale_count-cleared}
use Rattle.stage_flow.proofs.AheadVertices.{ahead-cleared}
use Rattle.stage_flow.proofs.mending.put_right.Goals as goal

pub loop-offer-init : goal.loop-offer-init
loop-offer-init c = record {
  halfway =
      let net = c.args.arcs.now in
      let flow = c.args.flow.now in
      let far = c.args.labels.now.far in
      let hops = c.args.labels.now.hops in
      let stale = c.args.stale.now in
      let old = label (at_vertex far) (count_at hops) in
      let offers = waiting c.push_all.new.queue in
      let (lengths, counts, labels) = right-exist net flow (at_vertex far) (count_at hops) stale c.requires.net c.requires.flow c.requires.wanted c.requires.right in
      let moved = subst (λ (before : List Offer). AreAdded (flat_map (λ vertex. offers_of (standing far hops) stale (ways_near net flow vertex)) c.args.vertices.now) before offers) c.clear.ensures c.in_ok-push_all.ensures in
      let first = halfway-first net flow c.requires.net far hops stale c.args.vertices.now c.requires.right c.requires.marked lengths counts labels offers c.requires.each.0 c.requires.each.1 c.requires.each.2 moved in
      subst (λ (xs : List ℤ). IsHalfway net flow old xs c.into_vec-hops.result.items stale offers) (sym (c.into_vec-far.ensures ∙ c.replace.ensures.value))
      (subst (λ (xs : List ℕ). IsHalfway net flow old far xs stale offers) (sym (c.into_vec-hops.ensures ∙ c.replace-2.ensures.value)) first);
  ahead = c.requires.marked.all;
}

pub push_from-requires : goal.push_from-requires
push_from-requires c =
    let net = c.args.arcs.now in
    let flow = c.args.flow.now in
    let old_far = at_vertex c.args.labels.now.far in
    let old_hops = count_at c.args.labels.now.hops in
    let offer = c.in-Some.offer in
    let far = c.accept.new.far in
    let hops = c.accept.new.hops in
    let stale = c.accept.new.stale in
    let rest = waiting c.next_offer.new.queue in
    let far_sized : length far ≡ c.loop-offer.far.len = omega (arith, c.accept.auto.far, c.as_mut_slice.ensures.len) in
    let hops_sized : length hops ≡ c.loop-offer.hops.len = omega (arith, c.accept.auto.hops, c.as_mut_slice-in-Some.ensures.len) in
    let new_far : far ≡ set c.loop-offer.far.items offer.vertex offer.far = c.accept.ensures.far ∙ ap (λ (xs : List ℤ). set xs offer.vertex offer.far) c.as_mut_slice.ensures.value in
    let new_hops : hops ≡ set c.loop-offer.hops.items offer.vertex offer.hops = c.accept.ensures.hops ∙ ap (λ (xs : List ℕ). set xs offer.vertex offer.hops) c.as_mut_slice-in-Some.ensures.value in
    let made = offers_of (standing far hops) stale (ways_near net flow offer.vertex) in
    let next =
    halfway-next net flow c.requires.net old_far old_hops c.args.stale.now c.requires.right c.loop-offer.far.items far c.loop-offer.hops.items hops c.loop-offer.stale stale (waiting c.loop-offer.queue) rest offer
    c.loop-offer.invariant.halfway c.in-Some.ensures.first new_far new_hops c.accept.ensures.stale (rest ++ made) (IsPermutation-refl (rest ++ made)) in
    let held = halfway-held net flow c.requires.net old_far old_hops c.args.stale.now c.requires.right far hops stale (rest ++ made) c.requires.flow.each next in
    let low : offer.vertex < vertex_count net = (let h = marked-low c.loop-offer.stale offer.vertex c.in-Some.ensures.first.stale in omega (arith, h, c.loop-offer.invariant.halfway.each_mark)) in
    let offered = row-offered net flow far hops stale c.requires.net held offer.vertex c.at.result.now low c.at.ensures in
    subst (λ (xs : List ℤ). All (IsOfferedBy flow xs c.as_slice-in-Some.result.now offer.vertex) c.at.result.now) (sym (c.as_slice.ensures.value ∙ with_items_is c.loop-offer.far far far_sized))
    (subst (λ (xs : List ℕ). All (IsOfferedBy flow far xs offer.vertex) c.at.result.now) (sym (c.as_slice-in-Some.ensures.value ∙ with_items_is c.loop-offer.hops hops hops_sized)) offered)

pub loop-offer-smaller : goal.loop-offer-smaller
loop-offer-smaller c =
    let fewer = stale_count-cleared c.loop-offer.stale c.in-Some.offer.vertex c.in-Some.ensures.first.stale in
    let same = ap stale_count c.accept.ensures.stale in
    omega (arith, fewer, same)

pub loop-offer-preserved : goal.loop-offer-preserved
loop-offer-preserved c = record {
  halfway =
      let net = c.args.arcs.now in
      let flow = c.args.flow.now in
      let old_far = at_vertex c.args.labels.now.far in
      let old_hops = count_at c.args.labels.now.hops in
      let offer = c.in-Some.offer in
      let far = c.accept.new.far in
      let hops = c.accept.new.hops in
      let stale = c.accept.new.stale in
      let rest = waiting c.next_offer.new.queue in
      let offers = waiting c.push_from.new.queue in
      let low : offer.vertex < vertex_count net = (let h = marked-low c.loop-offer.stale offer.vertex c.in-Some.ensures.first.stale in omega (arith, h, c.loop-offer.invariant.halfway.each_mark)) in
      let far_sized : length far ≡ c.loop-offer.far.len = omega (arith, c.accept.auto.far, c.as_mut_slice.ensures.len) in
      let hops_sized : length hops ≡ c.loop-offer.hops.len = omega (arith, c.accept.auto.hops, c.as_mut_slice-in-Some.ensures.len) in
      let new_far : far ≡ set c.loop-offer.far.items offer.vertex offer.far = c.accept.ensures.far ∙ ap (λ (xs : List ℤ). set xs offer.vertex offer.far) c.as_mut_slice.ensures.value in
      let new_hops : hops ≡ set c.loop-offer.hops.items offer.vertex offer.hops = c.accept.ensures.hops ∙ ap (λ (xs : List ℕ). set xs offer.vertex offer.hops) c.as_mut_slice-in-Some.ensures.value in
      let far_read : c.as_slice.result.now ≡ far = c.as_slice.ensures.value ∙ with_items_is c.loop-offer.far far far_sized in
      let hops_read : c.as_slice-in-Some.result.now ≡ hops = c.as_slice-in-Some.ensures.value ∙ with_items_is c.loop-offer.hops hops hops_sized in
      let ways : ways_by offer.vertex flow c.at.result.now ≡ ways_near net flow offer.vertex = row-ways net flow offer.vertex c.at.result.now c.at.ensures in
      let same : offers_of (standing c.as_slice.result.now c.as_slice-in-Some.result.now) stale (ways_by offer.vertex flow c.at.result.now) ≡ offers_of (standing far hops) stale (ways_near net flow offer.vertex) =
      λ i. offers_of (standing (far_read i) (hops_read i)) stale (ways i) in
      let next =
      halfway-next net flow c.requires.net old_far old_hops c.args.stale.now c.requires.right c.loop-offer.far.items far c.loop-offer.hops.items hops c.loop-offer.stale stale (waiting c.loop-offer.queue) rest offer
      c.loop-offer.invariant.halfway c.in-Some.ensures.first new_far new_hops c.accept.ensures.stale offers
      (subst (λ (more : List Offer). AreAdded more rest offers) same c.in_ok-push_from.ensures) in
      subst (λ (xs : List ℤ). IsHalfway net flow (label old_far old_hops) xs (with_items c.loop-offer.hops hops).items stale offers) (sym (with_items_is c.loop-offer.far far far_sized))
      (subst (λ (xs : List ℕ). IsHalfway net flow (label old_far old_hops) far xs stale offers) (sym (with_items_is c.loop-offer.hops hops hops_sized)) next);
  ahead = ahead-cleared c.loop-offer.stale c.accept.new.stale c.args.vertices.now c.next_offer.new.seen c.in-Some.offer.vertex c.accept.ensures.stale c.in-Some.ensures.ahead;
}

pub returns-clause-labels : goal.returns-clause-labels
returns-clause-labels c =
    let net = c.args.arcs.now in
    let flow = c.args.flow.now in
    let far = c.loop-offer.far.items in
    let hops = c.loop-offer.hops.items in
    let right = all-right net flow c.requires.net (at_vertex c.args.labels.now.far) (count_at c.args.labels.now.hops) c.args.stale.now c.requires.right far hops c.loop-offer.stale (waiting c.loop-offer.queue) c.loop-offer.invariant.halfway c.in_default.ensures.first in
    subst (λ (xs : List ℤ). AreLabels net flow (at_vertex xs) (count_at c.from_vec-2.result)) (sym c.from_vec.ensures)
    (subst (λ (xs : List ℕ). AreLabels net flow (at_vertex far) (count_at xs)) (sym c.from_vec-2.ensures) right)

pub returns-clause-none : goal.returns-clause-none
returns-clause-none c =
    none-stale c.args.arcs.now c.args.flow.now c.requires.net (at_vertex c.args.labels.now.far) (count_at c.args.labels.now.hops) c.args.stale.now c.requires.right c.loop-offer.far.items c.loop-offer.hops.items c.loop-offer.stale (waiting c.loop-offer.queue) c.loop-offer.invariant.halfway c.in_default.ensures.first
