use Rattle.std.proofs.Common.{◌≡◌, take}
use Rattle.pulse_sim.specs.Simulators.{input_pulses}
use Rattle.pulse_sim.proofs.site.write_inputs.Given as goal

abbrev pub invariant-loop-at : goal.invariant-loop-at
invariant-loop-at l = take l.at l.pulses ≡ input_pulses l.row (take l.at l.inputs)
