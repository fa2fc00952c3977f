use Rattle.std.proofs.Common.{◌≡◌, drop}
use Rattle.pulse_net.specs.Validity.{wire_inputs}
use Rattle.pulse_net.proofs.validity.pass_inputs.Given as goal

abbrev pub invariant-loop-place : goal.invariant-loop-place
invariant-loop-place l = wire_inputs l.place (drop l.place l.inputs) l.wires ≡ wire_inputs 0 l.inputs l.fn.wires
