use Rattle.std.proofs.Common.{◌≡◌, take}
use Rattle.balance_map.specs.Choices.{choices_of}
use Rattle.balance_map.proofs.choosing.choose_with.Given as goal

abbrev pub invariant-loop-node : goal.invariant-loop-node
invariant-loop-node l = l.choices.items ≡ take l.node (choices_of l.s)
