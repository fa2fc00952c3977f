use Rattle.std.proofs.Common.{◌≡◌, map, take}
use Rattle.pulse_sim.specs.Roots.{shown_pulse}
use Rattle.pulse_sim.proofs.root.write_shown.Given as goal

abbrev pub invariant-loop-at : goal.invariant-loop-at
invariant-loop-at l = take l.at l.outputs ≡ map (shown_pulse l.tick l.pulses) (take l.at l.shown)
