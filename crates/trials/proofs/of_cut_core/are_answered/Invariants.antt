use Rattle.cut_core.specs.Cores.{IsCoreOf}
use Rattle.trials.proofs.of_cut_core.are_answered.Given as goal

-- the core stays the graph's
abbrev pub invariant-loop-place : goal.invariant-loop-place
invariant-loop-place l = IsCoreOf l.graph l.core
