use Rattle.std.proofs.Common.{◌≡◌, ◌-◌}
use Rattle.pattern_table.specs.Least.{parts_of}
use Rattle.balance_map.proofs.WalkSteps.{HasWalked}
use Rattle.balance_map.proofs.walking.+walk.Given as goal

abbrev pub decreases-walk : goal.decreases-walk
decreases-walk l = l.depth

abbrev pub invariant-loop-part : goal.invariant-loop-part
invariant-loop-part l = (l.part-items ≡ parts_of l.head) × HasWalked l.initial.net l.leaves (l.depth - 1) l.head l.part-index l.net l.pins
