use Rattle.std.proofs.Common.{◌≡◌, ◌++◌, drop}
use Rattle.stage_flow.specs.Given.{at_vertex, count_at}
use Rattle.stage_flow.specs.Sending.{ways_by}
use Rattle.stage_flow.specs.Staleness.{tails_of}
use Rattle.stage_flow.proofs.stale.push_tails.Given as goal

abbrev pub invariant-loop-near : goal.invariant-loop-near
invariant-loop-near l =
    l.pending.items ++ tails_of (at_vertex l.labels.far) (count_at l.labels.hops) l.vertex (ways_by l.vertex l.flow (drop l.near-index l.nears))
    ≡ l.initial.pending.items ++ tails_of (at_vertex l.labels.far) (count_at l.labels.hops) l.vertex (ways_by l.vertex l.flow l.nears)
