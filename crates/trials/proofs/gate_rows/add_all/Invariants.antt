use Rattle.gate_net.specs.Net.{IsGateNet}
use Rattle.trials.proofs.gate_rows.add_all.Given as goal

abbrev pub invariant-loop-cell : goal.invariant-loop-cell
invariant-loop-cell l = IsGateNet l.net
