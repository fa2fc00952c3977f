use Rattle.std.proofs.Common.{◌≡◌, drop}
use Rattle.pulse_net.specs.Validity.{wire_elements}
use Rattle.pulse_net.proofs.validity.pass_elements.Given as goal

abbrev pub invariant-loop-place : goal.invariant-loop-place
invariant-loop-place l = wire_elements l.phases l.place (drop l.place l.elements) l.wires ≡ wire_elements l.phases 0 l.elements l.fn.wires
