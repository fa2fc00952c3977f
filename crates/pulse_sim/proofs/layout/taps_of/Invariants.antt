use Rattle.std.proofs.Common.{◌≡◌, map, take}
use Rattle.pulse_sim.specs.Simulators.{tap_of}
use Rattle.pulse_sim.proofs.layout.taps_of.Given as goal

abbrev pub invariant-loop-outlet : goal.invariant-loop-outlet
invariant-loop-outlet l = l.taps ≡ map (tap_of l.net) (take l.outlet-index l.outlet-items)
