use Rattle.std.proofs.Common.{◌≡◌, ◌++◌, take, drop}
use Rattle.pulse_sim.specs.Running.{with_shown}
use Rattle.pulse_sim.proofs.run.add_shown.Given as goal

-- what is read so far, and what is read of the rest, is what is read of all
abbrev pub invariant-loop-at : goal.invariant-loop-at
invariant-loop-at l = take l.at l.read ++ with_shown (drop l.at l.shown) (drop l.at l.read) ≡ with_shown l.shown l.fn.read
