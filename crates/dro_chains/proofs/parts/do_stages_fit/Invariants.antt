use Rattle.std.proofs.Common.{ℕ, ◌<◌, ◌^◌, get_or}
use Rattle.phase_rule.specs.Stages.{stage_of}
use Rattle.dro_chains.proofs.parts.do_stages_fit.Given as goal

-- the stages so far fit
abbrev pub invariant-loop-i : goal.invariant-loop-i
invariant-loop-i l = (k : ℕ) → k < l.i → stage_of l.n (get_or l.epochs k 0) (get_or l.phases k 0) < 2 ^ 32
