use Rattle.std.proofs.Common.{◌≡◌, ◌≤◌, ◌^◌, max, drop}
use Rattle.balance_map.specs.Choices.{latest}
use Rattle.balance_map.proofs.candidate.latest.Given as goal

abbrev pub invariant-loop-leaf : goal.invariant-loop-leaf
invariant-loop-leaf l = record {
  value : max l.last (latest l.choices (drop l.leaf-index l.leaves)) ≡ latest l.choices l.leaves;
  low : l.last ≤ 2 ^ 23;
}
