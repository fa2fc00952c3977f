use Rattle.gate_net.specs.Net.{IsGateNet}
use Rattle.trials.proofs.of_splitters.climb.Given as goal

abbrev pub invariant-loop : goal.invariant-loop
invariant-loop l = IsGateNet l.net
