use Rattle.std.proofs.Common.{◌≡◌, ◌+◌, length, drop}
use Rattle.pulse_sim.specs.Sites.{site_wires}
use Rattle.pulse_sim.specs.Roots.{parts_of, roots_behind, roots_of}
use Rattle.pulse_sim.proofs.root.roots_of.Given as goal

-- the roots of the wires that remain, behind those so far, are those of all
abbrev pub invariant-loop-site : goal.invariant-loop-site
invariant-loop-site l = record {
  room : length l.roots.items + site_wires (drop l.site-index l.sites) ≡ l.inputs + site_wires l.sites;
  whole : roots_behind l.roots.items (parts_of (drop l.site-index l.sites)) ≡ roots_of l.inputs (parts_of l.sites);
}
