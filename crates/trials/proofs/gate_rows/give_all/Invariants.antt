use Rattle.gate_net.specs.Net.{IsGateNet}
use Rattle.trials.proofs.gate_rows.give_all.Given as goal

abbrev pub invariant-loop-end : goal.invariant-loop-end
invariant-loop-end l = IsGateNet l.net
