use Rattle.std.proofs.Common.{◌≡◌, ◌++◌, take, map}
use Rattle.gate_net.specs.Net.{IsGateNet}
use Rattle.balance_map.specs.Cover.{end_of}
use Rattle.balance_map.proofs.covering.push_outputs.Given as goal

abbrev pub invariant-loop-output : goal.invariant-loop-output
invariant-loop-output l = (l.net ≡ record l.initial.net { outputs = l.initial.net.outputs ++ map (end_of l.drivers) (take l.output-index l.outputs) }) × IsGateNet l.net
