use Rattle.std.proofs.Common.{◌≡◌, map, take}
use Rattle.pulse_net.specs.Unfolding.{driver_of}
use Rattle.pulse_net.proofs.trace.traced_drivers.Given as goal

abbrev pub invariant-loop-pin : goal.invariant-loop-pin
invariant-loop-pin l = l.drivers ≡ map (driver_of l.wires.entries) (take l.pin-index l.pins)
