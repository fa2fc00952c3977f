use Rattle.std.proofs.Common.{◌≡◌, map}
use Rattle.std.specs.List.{range_with_len}
use Rattle.pulse_sim.specs.Roots.{parts_of}
use Rattle.pulse_sim.specs.Wakes.{phase_wakes}
use Rattle.pulse_sim.proofs.wakes.all_wakes.Given as goal

abbrev pub invariant-loop-phase : goal.invariant-loop-phase
invariant-loop-phase l = l.wakes ≡ map (phase_wakes l.inputs (parts_of l.sites)) (range_with_len 0 l.phase)
