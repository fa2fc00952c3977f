use Rattle.std.proofs.Common.{◌≡◌, map, take}
use Rattle.pulse_net.specs.Unfolding.{end_of}
use Rattle.pulse_net.proofs.trace.ends_of.Given as goal

abbrev pub invariant-loop-outlet : goal.invariant-loop-outlet
invariant-loop-outlet l = l.ends ≡ map (end_of l.wires.entries) (take l.outlet-index l.outlets)
