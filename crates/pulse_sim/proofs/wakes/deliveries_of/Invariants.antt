use Rattle.std.proofs.Common.{◌≡◌, ◌≤◌, ◌+◌, ◌++◌, length, drop}
use Rattle.pulse_sim.specs.Sites.{site_wires}
use Rattle.pulse_sim.specs.Roots.{parts_of}
use Rattle.pulse_sim.specs.Wakes.{deliveries_from, deliveries_of}
use Rattle.pulse_sim.proofs.wakes.deliveries_of.Given as goal

-- the deliveries so far and those of the rest are those of all
abbrev pub invariant-loop-at : goal.invariant-loop-at
invariant-loop-at l = record {
  room : length l.roots.items + site_wires (drop l.at l.sites) ≡ l.inputs + site_wires l.sites;
  before : l.at ≤ length l.roots.items;
  whole : l.deliveries ++ deliveries_from l.clock l.at l.roots.items (parts_of (drop l.at l.sites)) ≡ deliveries_of l.clock l.inputs (parts_of l.sites);
}
