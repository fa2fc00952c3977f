use Rattle.std.proofs.Common.{◌≡◌, false, take, replicate}
use Rattle.pulse_sim.proofs.run.clear.Given as goal

abbrev pub invariant-loop-bit : goal.invariant-loop-bit
invariant-loop-bit l = take l.bit-index l.read ≡ replicate l.bit-index false
