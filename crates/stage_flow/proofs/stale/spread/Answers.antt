use Rattle.std.proofs.Common.{◌≡◌, ◌∙◌, ◌++◌, true, length, ap, sym, subst}
use Rattle.std.specs.Prelude.{slice_set}
use Rattle.stage_flow.specs.Given.{at_vertex, count_at}
use Rattle.stage_flow.specs.Sending.{ways_near}
use Rattle.stage_flow.specs.Staleness.{tails_of, AreSpread}
use Rattle.stage_flow.proofs.SendingSearch.{row-read, row-ways}
use Rattle.stage_flow.proofs.StaleVertices.{unmarked-before, length-marked, spread-more, found-one, spread-done}
use Rattle.stage_flow.proofs.stale.spread.Goals as goal

pub push_tails-requires : goal.push_tails-requires
push_tails-requires c = record { read = row-read c.args.arcs.now c.args.flow.now c.args.labels.now.far c.args.labels.now.hops c.in-Some.vertex c.at.result.now c.requires.read c.in-Some.ensures.found.0 c.at.ensures }

pub loop-vertex-preserved : goal.loop-vertex-preserved
loop-vertex-preserved c =
    let net = c.args.arcs.now in
    let flow = c.args.flow.now in
    let far = at_vertex c.args.labels.now.far in
    let hops = count_at c.args.labels.now.hops in
    let found = c.in-Some.vertex in
    let after = c.next_stale.new.pending.items in
    let low = c.in-Some.ensures.found.0 in
    let tails = c.in_ok-push_tails.ensures
    ∙ ap (λ ways. after ++ tails_of far hops found ways) (row-ways c.args.arcs.now c.args.flow.now found c.at.result.now c.at.ensures) in
    let each : length c.loop-vertex.marks ≡ length c.args.marks.now = c.loop-vertex.invariant.each in
    record {
      each = length-marked c.loop-vertex.marks found ∙ each;
      waits = λ vertex within none. c.loop-vertex.invariant.waits vertex within (unmarked-before c.loop-vertex.marks found vertex none);
      spread = subst (λ pending. AreSpread net flow far hops (slice_set c.loop-vertex.marks found true) c.push.new.self.items pending) (sym tails)
          (subst (λ vertices. AreSpread net flow far hops (slice_set c.loop-vertex.marks found true) vertices (after ++ tails_of far hops found (ways_near net flow found))) (sym c.in_ok-push.ensures.items)
          (spread-more net flow far hops c.loop-vertex.marks c.loop-vertex.vertices.items c.loop-vertex.pending.items after found c.requires.read.ends (each ∙ c.requires.marks)
          low c.in-Some.ensures.found.2 c.in-Some.ensures.found.3 c.in-Some.ensures.low (found-one net flow far hops c.loop-vertex.marks c.loop-vertex.pending.items after found c.in-Some.ensures.looked) c.loop-vertex.invariant.spread));
    }

pub returns-clause-spread : goal.returns-clause-spread
returns-clause-spread c =
    spread-done c.args.arcs.now c.args.flow.now (at_vertex c.args.labels.now.far) (count_at c.args.labels.now.hops) c.loop-vertex.marks c.loop-vertex.vertices.items c.loop-vertex.pending.items c.next_stale.new.pending.items c.next_stale.result
    (c.next_stale.ensures.none c.in_default.is) c.in_default.is c.next_stale.ensures.looked c.loop-vertex.invariant.spread
