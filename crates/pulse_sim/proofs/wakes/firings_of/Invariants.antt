use Rattle.std.proofs.Common.{◌≡◌, ◌≤◌, ◌+◌, ◌++◌, drop}
use Rattle.pulse_sim.specs.Sites.{site_wires}
use Rattle.pulse_sim.specs.Roots.{parts_of}
use Rattle.pulse_sim.specs.Wakes.{firings_from, firings_of}
use Rattle.pulse_sim.proofs.wakes.firings_of.Given as goal

-- the firings so far and those of the rest are those of all
abbrev pub invariant-loop-at : goal.invariant-loop-at
invariant-loop-at l = record {
  whole : l.firings ++ firings_from l.phase l.at l.place (parts_of (drop l.at l.sites)) ≡ firings_of l.phase l.inputs (parts_of l.sites);
  before : l.at ≤ l.place;
  room : l.place + site_wires (drop l.at l.sites) ≡ l.inputs + site_wires l.sites;
}
