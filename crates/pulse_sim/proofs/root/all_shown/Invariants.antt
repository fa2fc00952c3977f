use Rattle.std.proofs.Common.{◌≡◌, map, take}
use Rattle.pulse_sim.specs.Roots.{shown_by}
use Rattle.pulse_sim.proofs.root.all_shown.Given as goal

abbrev pub invariant-loop-tap : goal.invariant-loop-tap
invariant-loop-tap l = l.shown ≡ map (shown_by l.roots) (take l.tap-index l.taps)
