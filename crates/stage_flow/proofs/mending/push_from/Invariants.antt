use Rattle.std.proofs.Common.{take}
use Rattle.std.specs.List.{flat_map}
use Rattle.stage_flow.specs.Passes.{standing}
use Rattle.stage_flow.specs.Mending.{AreAdded}
use Rattle.stage_flow.specs.Waiting.{waiting}
use Rattle.stage_flow.proofs.AddedOffers.{offers_over}
use Rattle.stage_flow.proofs.mending.push_from.Given as goal

abbrev pub invariant-loop-near : goal.invariant-loop-near
invariant-loop-near l =
    AreAdded (flat_map (offers_over l.vertex l.flow (standing l.far l.hops) l.stale) (take l.near-index l.nears)) (waiting l.initial.queue) (waiting l.queue)
