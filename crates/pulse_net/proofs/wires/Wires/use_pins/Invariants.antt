use Rattle.std.proofs.Common.{◌≡◌, drop}
use Rattle.pulse_net.specs.Validity.{use_pins}
use Rattle.pulse_net.proofs.wires.Wires.use_pins.Given as goal

-- what the remaining pins do to what was done is what all pins do to what was there before
abbrev pub invariant-loop-pin : goal.invariant-loop-pin
invariant-loop-pin l = use_pins l.phases l.user (drop l.pin-index l.pins) l.self ≡ use_pins l.phases l.user l.pins l.fn.self
