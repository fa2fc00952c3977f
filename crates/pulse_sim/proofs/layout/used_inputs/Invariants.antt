use Rattle.std.proofs.Common.{◌≡◌, ◌++◌, drop}
use Rattle.pulse_sim.specs.Simulators.{used_inputs}
use Rattle.pulse_sim.proofs.layout.used_inputs.Given as goal

-- the used inputs so far and those of the rest are those of all
abbrev pub invariant-loop-place : goal.invariant-loop-place
invariant-loop-place l = l.used ++ used_inputs l.place (drop l.place l.inputs) ≡ used_inputs 0 l.inputs
