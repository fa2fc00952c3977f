use Rattle.std.proofs.Common.{◌≡◌, drop}
use Rattle.std.specs.List.{fold}
use Rattle.pulse_sim.specs.Wakes.{fired}
use Rattle.pulse_sim.proofs.turn.fire.Given as goal

-- the firings that remain, behind those that are done, do what all do
abbrev pub invariant-loop-firing : goal.invariant-loop-firing
invariant-loop-firing l = fold fired (record { seen = l.pulses; sites = l.sites }) (drop l.firing-index l.firings) ≡ fold fired (record { seen = l.fn.pulses; sites = l.fn.sites }) l.firings
