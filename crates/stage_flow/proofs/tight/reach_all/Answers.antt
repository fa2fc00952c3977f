use Rattle.std.proofs.Common.{◌≡◌, ◌<◌, ◌∙◌, nat_eq, length, get_or, refl, ap, arith}
use Rattle.net_base.specs.Keys.{with_keys}
use Rattle.stage_flow.specs.Given.{at_vertex, count_at}
use Rattle.stage_flow.specs.Sending.{heads_of}
use Rattle.stage_flow.proofs.SendingSearch.{at-among, row-read, row-ways, reaches-first, reaches-next, reaches-few, reaches-all}
use Rattle.stage_flow.proofs.tight.reach_all.Goals as goal

pub loop-next-init : goal.loop-next-init
loop-next-init c = record {
  each = refl;
  reaches = reaches-first c.args.arcs.now c.args.flow.now (at_vertex c.args.labels.now.far) (count_at c.args.labels.now.hops) c.args.marks.now c.args.from c.args.reached.now.keys.items c.requires.alone c.requires.vertex c.requires.fresh;
}

pub at-requires : goal.at-requires
at-requires c =
    let vertex = get_or c.as_slice.result.now c.loop-next.next 0 in
    let keys = c.loop-next.reached.keys.items in
    let here : vertex ≡ get_or keys c.loop-next.next 0 = ap (λ xs. get_or xs c.loop-next.next 0) c.as_slice.ensures.keys in
    let within : c.loop-next.next < length keys = omega (arith, c.len.ensures.len, c.loop-next-test.true) in
    c.loop-next.invariant.reaches.low vertex (at-among keys c.loop-next.next vertex within here)

pub reach_from-requires-clause-read : goal.reach_from-requires-clause-read
reach_from-requires-clause-read c =
    let vertex = get_or c.as_slice.result.now c.loop-next.next 0 in
    let keys = c.loop-next.reached.keys.items in
    let here : vertex ≡ get_or keys c.loop-next.next 0 = ap (λ xs. get_or xs c.loop-next.next 0) c.as_slice.ensures.keys in
    let within : c.loop-next.next < length keys = omega (arith, c.len.ensures.len, c.loop-next-test.true) in
    let low = c.loop-next.invariant.reaches.low vertex (at-among keys c.loop-next.next vertex within here) in
    row-read c.args.arcs.now c.args.flow.now c.args.labels.now.far c.args.labels.now.hops vertex c.at.result.now c.requires.read low c.at.ensures

pub loop-next-smaller : goal.loop-next-smaller
loop-next-smaller c =
    omega (arith, c.len.ensures.len, c.loop-next-test.true, reaches-few c.args.arcs.now c.args.flow.now (at_vertex c.args.labels.now.far) (count_at c.args.labels.now.hops) c.args.marks.now c.args.from c.loop-next.reached.keys.items c.loop-next.next c.len.ensures.unique c.loop-next.invariant.reaches)

pub loop-next-preserved : goal.loop-next-preserved
loop-next-preserved c =
    let net = c.args.arcs.now in
    let flow = c.args.flow.now in
    let far = at_vertex c.args.labels.now.far in
    let hops = count_at c.args.labels.now.hops in
    let vertex = get_or c.as_slice.result.now c.loop-next.next 0 in
    let keys = c.loop-next.reached.keys.items in
    let here : vertex ≡ get_or keys c.loop-next.next 0 = ap (λ xs. get_or xs c.loop-next.next 0) c.as_slice.ensures.keys in
    let within : c.loop-next.next < length keys = omega (arith, c.len.ensures.len, c.loop-next-test.true) in
    let low = c.loop-next.invariant.reaches.low vertex (at-among keys c.loop-next.next vertex within here) in record {
      each = c.in_ok-reach_from.ensures.each ∙ c.loop-next.invariant.each;
      reaches = reaches-next net flow far hops c.args.marks.now c.args.from keys c.loop-next.next vertex c.reach_from.new.reached.keys.items c.requires.read.ends within here
          (c.in_ok-reach_from.ensures.keys
          ∙ ap (λ ways. with_keys nat_eq keys (heads_of far hops c.args.marks.now vertex ways)) (row-ways net flow vertex c.at.result.now c.at.ensures))
          c.loop-next.invariant.reaches;
    }

pub returns-clause-reached : goal.returns-clause-reached
returns-clause-reached c =
    reaches-all c.args.arcs.now c.args.flow.now (at_vertex c.args.labels.now.far) (count_at c.args.labels.now.hops) c.args.marks.now c.args.from c.loop-next.reached.keys.items c.loop-next.next c.requires.dead (omega (arith, c.len.ensures.len, c.loop-next-test.false)) c.loop-next.invariant.reaches
