use Rattle.std.proofs.Common.{◌≡◌, drop, length, nat_eq}
use Rattle.net_base.specs.Keys.{with_keys}
use Rattle.stage_flow.specs.Given.{at_vertex, count_at}
use Rattle.stage_flow.specs.Sending.{ways_by, heads_of}
use Rattle.stage_flow.proofs.tight.reach_from.Given as goal

abbrev pub invariant-loop-near : goal.invariant-loop-near
invariant-loop-near l =
    (length l.reached.marks.items ≡ length l.initial.reached.marks.items)
    × (with_keys nat_eq l.reached.keys.items (heads_of (at_vertex l.labels.far) (count_at l.labels.hops) l.marks l.vertex (ways_by l.vertex l.flow (drop l.near-index l.nears)))
    ≡ with_keys nat_eq l.initial.reached.keys.items (heads_of (at_vertex l.labels.far) (count_at l.labels.hops) l.marks l.vertex (ways_by l.vertex l.flow l.nears)))
