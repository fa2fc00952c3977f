use Rattle.std.proofs.Common.{take}
use Rattle.std.specs.List.{flat_map}
use Rattle.balance_map.specs.FanOuts.{fan_ins}
use Rattle.balance_map.specs.Steps.{AreCounts}
use Rattle.balance_map.proofs.fan_outs.count_fan_ins.Given as goal

abbrev pub invariant-loop-node : goal.invariant-loop-node
invariant-loop-node l = AreCounts (flat_map fan_ins (take l.node-index l.node-items)) l.counts
