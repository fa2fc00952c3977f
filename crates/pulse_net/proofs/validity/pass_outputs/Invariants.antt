use Rattle.std.proofs.Common.{◌≡◌, drop}
use Rattle.pulse_net.specs.Validity.{wire_outputs}
use Rattle.pulse_net.proofs.validity.pass_outputs.Given as goal

abbrev pub invariant-loop-place : goal.invariant-loop-place
invariant-loop-place l = wire_outputs l.phases l.latency l.place (drop l.place l.outputs) l.wires ≡ wire_outputs l.phases l.latency 0 l.outputs l.fn.wires
