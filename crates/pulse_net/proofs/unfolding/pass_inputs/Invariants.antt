use Rattle.std.proofs.Common.{◌≡◌, drop}
use Rattle.pulse_net.specs.Unfolding.{unfold_inputs}
use Rattle.pulse_net.proofs.unfolding.pass_inputs.Given as goal

abbrev pub invariant-loop-place : goal.invariant-loop-place
invariant-loop-place l = unfold_inputs l.place (drop l.place l.inputs) l.trace ≡ unfold_inputs 0 l.inputs l.fn.trace
