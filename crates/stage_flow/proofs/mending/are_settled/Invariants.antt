use Rattle.std.proofs.Common.{◌-◌, length}
use Rattle.stage_flow.specs.Mending.{AreAhead}
use Rattle.stage_flow.proofs.mending.are_settled.Given as goal

abbrev pub invariant-loop-seen : goal.invariant-loop-seen
invariant-loop-seen l = AreAhead l.stale l.vertices l.seen

abbrev pub decreases-loop-seen : goal.decreases-loop-seen
decreases-loop-seen l = length l.vertices - l.seen
