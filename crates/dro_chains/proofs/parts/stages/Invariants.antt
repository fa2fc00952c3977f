use Rattle.std.proofs.Common.{◌≡◌, ◌++◌, drop}
use Rattle.dro_chains.specs.Chains.{stages_of}
use Rattle.dro_chains.proofs.parts.stages.Given as goal

abbrev pub invariant-loop-i : goal.invariant-loop-i
invariant-loop-i l = l.stages.items ++ stages_of l.n (drop l.i l.epochs) (drop l.i l.phases) ≡ stages_of l.n l.epochs l.phases
