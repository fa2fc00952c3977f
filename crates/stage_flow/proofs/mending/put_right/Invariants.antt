use Rattle.stage_flow.specs.Given.{at_vertex, count_at}
use Rattle.stage_flow.specs.LawsOfWalks.{label}
use Rattle.stage_flow.specs.Mending.{AreAhead}
use Rattle.stage_flow.specs.Waiting.{waiting}
use Rattle.stage_flow.proofs.Halfway.{IsHalfway}
use Rattle.stage_flow.proofs.HalfwaySteps.{stale_count}
use Rattle.stage_flow.proofs.mending.put_right.Given as goal

abbrev pub invariant-loop-offer : goal.invariant-loop-offer
invariant-loop-offer l = record {
  halfway : IsHalfway l.arcs l.flow (label (at_vertex l.fn.labels.far) (count_at l.fn.labels.hops)) l.far.items l.hops.items l.stale (waiting l.queue);
  ahead : AreAhead l.stale l.vertices l.seen;
}

abbrev pub decreases-loop-offer : goal.decreases-loop-offer
decreases-loop-offer l = stale_count l.stale
