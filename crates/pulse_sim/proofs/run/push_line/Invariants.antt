use Rattle.std.proofs.Common.{◌≡◌, ◌++◌, map, take}
use Rattle.pulse_sim.specs.Reading.{digit}
use Rattle.pulse_sim.proofs.run.push_line.Given as goal

abbrev pub invariant-loop-bit : goal.invariant-loop-bit
invariant-loop-bit l = l.text.items ≡ l.fn.text.items ++ map digit (take l.bit-index l.read)
