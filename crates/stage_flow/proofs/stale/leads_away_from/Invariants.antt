use Rattle.std.proofs.Common.{take}
use Rattle.stage_flow.specs.Given.{at_vertex, count_at}
use Rattle.stage_flow.specs.Sending.{ways_by}
use Rattle.stage_flow.specs.Staleness.{NoneLeadsAway}
use Rattle.stage_flow.proofs.stale.leads_away_from.Given as goal

abbrev pub invariant-loop-near : goal.invariant-loop-near
invariant-loop-near l = NoneLeadsAway (at_vertex l.labels.far) (count_at l.labels.hops) l.marks l.vertex (ways_by l.vertex l.flow (take l.near-index l.nears))
