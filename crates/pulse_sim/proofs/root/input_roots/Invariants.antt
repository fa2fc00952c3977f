use Rattle.std.proofs.Common.{◌≡◌, map}
use Rattle.std.specs.List.{range_with_len}
use Rattle.pulse_sim.specs.Roots.{input_root}
use Rattle.pulse_sim.proofs.root.input_roots.Given as goal

abbrev pub invariant-loop-input : goal.invariant-loop-input
invariant-loop-input l = l.roots.items ≡ map input_root (range_with_len 0 l.input)
