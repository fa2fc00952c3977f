use Rattle.std.proofs.Common.{take}
use Rattle.std.specs.List.{flat_map}
use Rattle.stage_flow.specs.Sending.{ways_near}
use Rattle.stage_flow.specs.Passes.{standing}
use Rattle.stage_flow.specs.Mending.{AreAdded, offers_of}
use Rattle.stage_flow.specs.Waiting.{waiting}
use Rattle.stage_flow.proofs.mending.push_all.Given as goal

abbrev pub invariant-loop-vertex : goal.invariant-loop-vertex
invariant-loop-vertex l =
    AreAdded (flat_map (λ vertex. offers_of (standing l.labels.far l.labels.hops) l.stale (ways_near l.arcs l.flow vertex)) (take l.vertex-index l.vertices)) (waiting l.initial.queue) (waiting l.queue)
