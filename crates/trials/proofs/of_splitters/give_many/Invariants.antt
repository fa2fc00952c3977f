use Rattle.gate_net.specs.Net.{IsGateNet}
use Rattle.trials.proofs.of_splitters.give_many.Given as goal

abbrev pub invariant-loop : goal.invariant-loop
invariant-loop l = IsGateNet l.net
