use Rattle.std.proofs.Common.{◌≡◌, [], map, take}
use Rattle.pulse_sim.specs.Simulators.{site_of}
use Rattle.pulse_sim.proofs.layout.sites_of.Given as goal

abbrev pub invariant-loop-element : goal.invariant-loop-element
invariant-loop-element l = l.sites.items ≡ map (site_of l.net []) (take l.element-index l.element-items)
