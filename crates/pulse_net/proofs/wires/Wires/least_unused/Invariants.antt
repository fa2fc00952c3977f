use Rattle.std.proofs.Common.{◌≡◌, None, drop}
use Rattle.std.specs.Map.{keys_of}
use Rattle.pulse_net.specs.Validity.{least_unused}
use Rattle.pulse_net.proofs.wires.Wires.least_unused.Given as goal

-- the least of what was found and what remains is the least of all
abbrev pub invariant-loop-wire : goal.invariant-loop-wire
invariant-loop-wire l = least_unused l.self.used l.least (drop l.wire-index l.wire-items) ≡ least_unused l.self.used None (keys_of l.self.made)
