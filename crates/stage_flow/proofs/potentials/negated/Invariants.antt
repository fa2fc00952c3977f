use Rattle.std.proofs.Common.{◌≡◌, ◌-ℤ◌, ℤ, pos, map, take}
use Rattle.stage_flow.proofs.potentials.negated.Given as goal

abbrev pub invariant-loop-number : goal.invariant-loop-number
invariant-loop-number l = l.list.items ≡ map (λ (number : ℤ). pos 0 -ℤ number) (take l.number-index l.numbers)
