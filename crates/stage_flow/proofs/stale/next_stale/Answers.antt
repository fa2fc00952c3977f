use Rattle.std.proofs.Common.{◌≡◌, ◌<◌, ◌⊎◌, true, refl, Some}
use Rattle.std.proofs.lemmas.List.Elements.{All-pop}
use Rattle.stage_flow.specs.Residual.{vertex_count}
use Rattle.stage_flow.specs.Given.{at_vertex, count_at}
use Rattle.stage_flow.specs.Passes.{mark_at}
use Rattle.stage_flow.specs.Mending.{IsSound}
use Rattle.stage_flow.proofs.StaleVertices.{looked-on, looked-last}
use Rattle.stage_flow.proofs.stale.next_stale.Goals as goal

pub returns-then-is_newly_stale-clause-looked : goal.returns-then-is_newly_stale-clause-looked
returns-then-is_newly_stale-clause-looked c =
    looked-last {Rest = λ v. (mark_at c.args.marks.now v ≡ true) ⊎ IsSound c.args.arcs.now c.args.flow.now (at_vertex c.args.labels.now.far) (count_at c.args.labels.now.hops) c.args.marks.now v}
    c.args.pending.now.items c.loop-vertex.pending.items c.pop.new.self.items c.in-Some.vertex c.in-Some.ensures.items c.loop-vertex.invariant.looked

pub loop-vertex-preserved : goal.loop-vertex-preserved
loop-vertex-preserved c = record {
  low = (All-pop (λ v. v < vertex_count c.args.arcs.now) c.loop-vertex.pending.items c.pop.new.self.items (Some c.in-Some.vertex) c.in-Some.ensures.items c.loop-vertex.invariant.low).0;
  looked = looked-on {Rest = λ v. (mark_at c.args.marks.now v ≡ true) ⊎ IsSound c.args.arcs.now c.args.flow.now (at_vertex c.args.labels.now.far) (count_at c.args.labels.now.hops) c.args.marks.now v}
      c.args.pending.now.items c.loop-vertex.pending.items c.pop.new.self.items c.in-Some.vertex c.in-Some.ensures.items (c.if-is_newly_stale.ensures.other refl) c.loop-vertex.invariant.looked;
}
