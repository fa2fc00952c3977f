use Rattle.std.proofs.Common.{◌<◌, Some, refl}
use Rattle.std.proofs.lemmas.List.Elements.{All-pop}
use Rattle.stage_flow.specs.Residual.{vertex_count}
use Rattle.stage_flow.specs.Given.{at_vertex, count_at}
use Rattle.stage_flow.proofs.RevivedVertices.{dead-but-fewer}
use Rattle.stage_flow.proofs.reviving.next_revived.Goals as goal

pub loop-vertex-preserved : goal.loop-vertex-preserved
loop-vertex-preserved c = record {
  low = (All-pop (λ v. v < vertex_count c.args.arcs.now) c.loop-vertex.pending.items c.pop.new.self.items (Some c.in-Some.vertex) c.in-Some.ensures.items c.loop-vertex.invariant.low).0;
  dead = dead-but-fewer c.args.arcs.now c.args.flow.now (at_vertex c.args.labels.now.far) (count_at c.args.labels.now.hops) c.args.marks.now c.loop-vertex.pending.items c.pop.new.self.items c.in-Some.vertex c.in-Some.ensures.items
      (c.if-is_revived.ensures.dead refl) c.loop-vertex.invariant.dead;
}
