use Rattle.std.proofs.Common.{◌-◌, length}
use Rattle.blif_check.specs.Cycles.{all_pins}
use Rattle.blif_check.proofs.Reached.{ReachesOn}
use Rattle.blif_check.proofs.cycles.reach_on.Given as goal

abbrev pub invariant-loop-next : goal.invariant-loop-next
invariant-loop-next l = ReachesOn l.tables l.initial.reached.keys l.reached.keys l.next

abbrev pub decreases-loop-next : goal.decreases-loop-next
decreases-loop-next l = length (all_pins l.tables) - l.next
