use Rattle.std.proofs.Common.{◌≡◌, ◌≤◌, ◌*◌, ◌^◌, sum, map, take}
use Rattle.net_base.specs.declared.graph.Subject.{Subject}
use Rattle.balance_map.specs.FanOuts.{reads_of}
use Rattle.balance_map.specs.Choices.{leaf_cost}
use Rattle.balance_map.specs.Steps.{AreCounts}
use Rattle.balance_map.proofs.candidate.leaf_costs.Given as goal

abbrev pub invariant-loop-leaf : goal.invariant-loop-leaf
invariant-loop-leaf l = record {
  value : (subject : Subject) → AreCounts (reads_of subject) l.fan_outs → l.total ≡ sum (map (leaf_cost subject l.choices l.last) (take l.leaf-index l.leaves));
  few : l.total ≤ l.leaf-index * 2 ^ 41;
}
