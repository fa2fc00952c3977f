use Rattle.std.proofs.Common.{length}
use Rattle.stage_flow.specs.Waiting.{waiting}
use Rattle.stage_flow.proofs.FirstOffers.{IsLeft}
use Rattle.stage_flow.proofs.offers.Queue.next.Given as goal

abbrev pub invariant-loop-offer : goal.invariant-loop-offer
invariant-loop-offer l = IsLeft l.stale (waiting l.initial.self) (waiting l.self)

abbrev pub decreases-loop-offer : goal.decreases-loop-offer
decreases-loop-offer l = length (waiting l.self)
