use Rattle.std.proofs.Common.{◌≡◌, suc, map}
use Rattle.std.specs.List.{range_with_len}
use Rattle.stage_flow.specs.Given.{at_vertex}
use Rattle.stage_flow.specs.LawsOfEpochs.{rise_to}
use Rattle.stage_flow.proofs.epochs.epochs_from.Given as goal

abbrev pub invariant-loop-gate : goal.invariant-loop-gate
invariant-loop-gate l = l.gates.items ≡ map (λ gate. rise_to (at_vertex l.far) (suc gate)) (range_with_len 0 l.gate)
