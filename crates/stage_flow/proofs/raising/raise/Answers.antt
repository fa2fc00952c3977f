use Rattle.std.proofs.Common.{◌≡◌, ◌<◌, ◌^◌, ◌∙◌, ℕ, length, sym, subst, arith}
use Rattle.std.proofs.lemmas.List.{get_or_past, with_items_is}
use Rattle.stage_flow.specs.Given.{at_vertex, count_at}
use Rattle.stage_flow.specs.Raising.{lifted, MayRise, AreKeptBut}
use Rattle.stage_flow.proofs.ProgressNetworks.{vertices-few, ends-among}
use Rattle.stage_flow.proofs.Round.{ways-low}
use Rattle.stage_flow.proofs.RaisedLabels.{reads, raised-counts, raised-kept, raised-few}
use Rattle.stage_flow.proofs.raising.raise.Goals as goal

pub search-requires-clause-read : goal.search-requires-clause-read
search-requires-clause-read c = reads c.args.arcs.now c.args.flow.now c.args.labels.far c.args.labels.hops c.requires.net c.requires.units c.requires.each.0 c.requires.each.1

pub tested_floor-floor-requires-clause-read : goal.tested_floor-floor-requires-clause-read
tested_floor-floor-requires-clause-read c = reads c.args.arcs.now c.args.flow.now c.args.labels.far c.args.labels.hops c.requires.net c.requires.units c.requires.each.0 c.requires.each.1

pub raise_all-requires-clause-few : goal.raise_all-requires-clause-few
raise_all-requires-clause-few c =
    let net = c.args.arcs.now in
    let flow = c.args.flow.now in
    let far = at_vertex c.args.labels.far in
    let hops = count_at c.args.labels.hops in
    let heights = c.search.new.room.heights.items in
    let floor = c.tested_floor-floor.result in
    let may : (vertex : ℕ) → MayRise net flow far hops c.args.marks.now heights floor vertex =
    subst (λ xs. (vertex : ℕ) → MayRise net flow far hops c.args.marks.now xs floor vertex) c.as_slice-heights.ensures.value c.tested_floor-floor.ensures in
    let few = raised-few net flow far hops c.args.marks.now heights floor (ways-low net flow (ends-among net c.requires.net)) c.requires.kept may (vertices-few net c.requires.net) (c.in_ok-floor.ensures.each ∙ c.requires.rest.each)
    (λ vertex past. get_or_past c.args.labels.hops vertex 0 (omega (arith, past, c.requires.each.1))) in
    subst (λ xs. (vertex : ℕ) → lifted (count_at xs) c.as_mut_slice-2.result.now floor vertex < 2 ^ 32) (sym (c.as_mut_slice.ensures.value ∙ c.into_vec-hops.ensures))
    (subst (λ xs. (vertex : ℕ) → lifted hops xs floor vertex < 2 ^ 32) (sym c.as_mut_slice-2.ensures.value) few)

pub returns-clause-kept : goal.returns-clause-kept
returns-clause-kept c =
    let net = c.args.arcs.now in
    let flow = c.args.flow.now in
    let far = at_vertex c.args.labels.far in
    let hops = count_at c.args.labels.hops in
    let heights = c.search.new.room.heights.items in
    let reached = c.search.new.room.reached.items in
    let floor = c.tested_floor-floor.result in
    let may : (vertex : ℕ) → MayRise net flow far hops c.args.marks.now heights floor vertex =
    subst (λ xs. (vertex : ℕ) → MayRise net flow far hops c.args.marks.now xs floor vertex) c.as_slice-heights.ensures.value c.tested_floor-floor.ensures in
    let kept = raised-kept net flow far hops c.args.marks.now heights floor (ways-low net flow (ends-among net c.requires.net)) c.requires.kept may reached c.in_ok-floor.ensures.tracked in
    let sized : length c.raise_all.new.hops ≡ c.into_vec-hops.result.len = omega (arith, c.raise_all.auto.hops, c.as_mut_slice.ensures.len) in
    let counts : c.from_vec.result ≡ c.raise_all.new.hops = c.from_vec.ensures ∙ with_items_is c.into_vec-hops.result c.raise_all.new.hops sized in
    subst (λ (h : ℕ → ℕ). AreKeptBut net flow far h c.args.marks.now reached)
    (raised-counts c.args.labels.hops c.as_mut_slice.result.now heights c.as_mut_slice-2.result.now c.raise_all.new.hops c.from_vec.result floor counts c.raise_all.ensures.raised (c.as_mut_slice.ensures.value ∙ c.into_vec-hops.ensures) c.as_mut_slice-2.ensures.value)
    kept
