use Rattle.std.proofs.Common.{◌++◌, take}
use Rattle.std.specs.List.{flat_map}
use Rattle.balance_map.specs.FanOuts.{fan_ins, ref_nodes}
use Rattle.balance_map.specs.Steps.{AreCounts}
use Rattle.balance_map.proofs.fan_outs.count_outputs.Given as goal

abbrev pub invariant-loop-output : goal.invariant-loop-output
invariant-loop-output l = AreCounts (flat_map fan_ins l.s.graph.nodes ++ flat_map ref_nodes (take l.output-index l.output-items)) l.counts
