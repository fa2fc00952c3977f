use Rattle.std.proofs.Common.{◌<◌, ◌-◌, ◌∙◌, ℕ, List, [], ◌∷◌, None, length, map, All, sym, ap, subst, arith}
use Rattle.std.specs.Option.{option_map}
use Rattle.std.proofs.lemmas.List.{map-append}
use Rattle.std.proofs.lemmas.List.Elements.{All-weaker}
use Rattle.std.proofs.lemmas.Option.{get_or_from_slice_get}
use Rattle.net_base.proofs.CallerLemmas.{map-reverse}
use Rattle.stage_flow.specs.Residual.{vertex_count}
use Rattle.stage_flow.specs.Given.{at_vertex, count_at}
use Rattle.stage_flow.specs.Sending.{way_of, comes_last, least_by}
use Rattle.stage_flow.specs.declared.ways.Step.{Step}
use Rattle.stage_flow.proofs.SendingSearch.{row-read, row-ways}
use Rattle.stage_flow.proofs.SendingPath.{reached-low, reads-first, reads-on, reads-some, reads-all}
use Rattle.stage_flow.proofs.tight.read_path.Goals as goal

pub least_end-vertex-requires : goal.least_end-vertex-requires
least_end-vertex-requires c =
    let net = c.args.arcs.now in
    let keys = c.args.reached.now.keys.items in
    let low = reached-low net c.args.flow.now (at_vertex c.args.labels.now.far) (count_at c.args.labels.now.hops) c.args.marks.now c.args.from keys c.requires.reached in
    let long = ap (λ (xs : List ℕ). length xs) c.as_slice.ensures in
    subst (All (λ v. v < length c.as_slice.result.now)) (sym c.as_slice-2.ensures.keys)
    (All-weaker (λ v. v < vertex_count net) (λ v. v < length c.as_slice.result.now) (λ v h. omega (arith, h, long, c.requires.read.each_hops)) keys low)

pub loop-left-init : goal.loop-left-init
loop-left-init c =
    let hops = c.args.labels.now.hops in
    reads-first c.args.arcs.now c.args.flow.now (at_vertex c.args.labels.now.far) hops c.as_slice-2.result.now c.args.marks.now c.requires.kept c.requires.read.ends c.args.from c.requires.vertex c.requires.fresh c.args.reached.now.keys.items c.requires.reached c.least_end-vertex.result c.get-left.result.now (map way_of c.args.path.now.items) c.as_slice.result.now
    c.requires.read.few c.as_slice.ensures c.as_slice-2.ensures.keys c.least_end-vertex.ensures.least c.least_end-vertex.ensures.found
    (get_or_from_slice_get hops c.args.from c.get-left.result.now 0 c.get-left.ensures)
    (ap (map way_of) c.requires.empty)

pub least_into-requires : goal.least_into-requires
least_into-requires c = record { read = row-read c.args.arcs.now c.args.flow.now c.args.labels.now.far c.args.labels.now.hops c.loop-left.vertex c.at.result.now c.requires.read c.loop-left.invariant.low c.at.ensures }

pub unreachable-requires : goal.unreachable-requires
unreachable-requires c =
    let net = c.args.arcs.now in
    let flow = c.args.flow.now in
    let far = at_vertex c.args.labels.now.far in
    let hops = count_at c.args.labels.now.hops in
    let keys = c.args.reached.now.keys.items in
    let vertex = c.loop-left.vertex in
    reads-some net flow far hops c.args.marks.now c.requires.kept c.requires.read.ends c.args.from c.requires.vertex c.requires.fresh keys c.requires.reached (map way_of c.loop-left.path.items) c.loop-left.left vertex (option_map way_of c.least_into.result) c.loop-left-test.true c.loop-left.invariant
    (c.least_into.ensures
    ∙ ap (least_by (comes_last far hops keys vertex) None) (row-ways net flow vertex c.at.result.now c.at.ensures))
    (ap (option_map way_of) c.in_default.is)

pub loop-left-preserved : goal.loop-left-preserved
loop-left-preserved c =
    let net = c.args.arcs.now in
    let flow = c.args.flow.now in
    let far = at_vertex c.args.labels.now.far in
    let hops = count_at c.args.labels.now.hops in
    let keys = c.args.reached.now.keys.items in
    let vertex = c.loop-left.vertex in
    let step : Step = c.in-Some.step in
    let items = c.loop-left.path.items in
    reads-on net flow far hops c.args.marks.now c.requires.kept c.requires.read.ends c.args.from c.requires.vertex c.requires.fresh keys c.requires.reached (map way_of items) (map way_of c.push.new.self.items) c.loop-left.left (c.loop-left.left - 1) vertex (option_map way_of c.least_into.result) (way_of step)
    (ap (option_map way_of) c.in-Some.is) (let some = c.loop-left-test.true in omega (arith, some)) c.loop-left.invariant
    (c.least_into.ensures
    ∙ ap (least_by (comes_last far hops keys vertex) None) (row-ways net flow vertex c.at.result.now c.at.ensures))
    (ap (map way_of) c.in_ok-push.ensures.items ∙ map-append way_of items (step ∷ []))

pub returns : goal.returns
returns c =
    ap (map way_of) c.reverse.ensures.items
    ∙ map-reverse way_of c.loop-left.path.items
    ∙ reads-all c.args.arcs.now c.args.flow.now (at_vertex c.args.labels.now.far) (count_at c.args.labels.now.hops) c.args.marks.now c.args.from (map way_of c.loop-left.path.items) c.loop-left.left c.loop-left.vertex c.loop-left-test.false c.loop-left.invariant
