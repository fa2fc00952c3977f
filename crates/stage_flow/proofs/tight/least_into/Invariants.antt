use Rattle.std.proofs.Common.{◌≡◌, drop, None}
use Rattle.std.specs.Option.{option_map}
use Rattle.stage_flow.specs.Given.{at_vertex, count_at}
use Rattle.stage_flow.specs.Sending.{way_of, ways_by, comes_last, least_by}
use Rattle.stage_flow.proofs.tight.least_into.Given as goal

abbrev pub invariant-loop-near : goal.invariant-loop-near
invariant-loop-near l =
    least_by (comes_last (at_vertex l.labels.far) (count_at l.labels.hops) l.reached.keys.items l.vertex) (option_map way_of l.found) (ways_by l.vertex l.flow (drop l.near-index l.nears))
    ≡ least_by (comes_last (at_vertex l.labels.far) (count_at l.labels.hops) l.reached.keys.items l.vertex) None (ways_by l.vertex l.flow l.nears)
