-- What labels cost. By a residual arc a label's cost grows by the same for every label. Of two labels the better costs less, as long as no
-- number of arcs comes near what a unit of length weighs; and labels that cost the same are the same.
use Rattle.std.proofs.Common.{◌≡◌, ◌<◌, ◌≤◌, ◌^◌, ℤ, pos, ◌+ℤ◌, ◌-ℤ◌, ◌*ℤ◌, ◌≤ℤ◌, arith}
use Rattle.std.proofs.lemmas.Int.{ints}
use Rattle.stage_flow.specs.Residual.{Way}
use Rattle.stage_flow.specs.Longest.{Reach}
use Rattle.stage_flow.specs.LawsOfWalks.{led_by}
use Rattle.stage_flow.specs.Mending.{cost}
use Rattle.stage_flow.proofs.Walks.{IsNoBetter, reach-same}

-- what a label costs more by a residual arc
abbrev pub growth : Way → ℤ
growth way = pos 1 -ℤ way.length *ℤ pos (2 ^ 32)

pub cost-led : (way : Way) (reach : Reach) → cost (led_by way reach) ≡ cost reach +ℤ growth way
cost-led way reach = omega (arith, ints)

-- What is no better costs no less.
pub cost-no_better : (a b : Reach) → b.hops ≤ 2 ^ 32 → IsNoBetter a b → cost b ≤ℤ cost a
cost-no_better a b few less = grind (arith, ints, less.no_longer, less.no_fewer)

pub cost-same : (a b : Reach) → a.hops < 2 ^ 32 → b.hops < 2 ^ 32 → cost a ≡ cost b → a ≡ b
cost-same a b few few' same = reach-same a b (let long : a.length ≡ b.length = omega (arith, ints) in long) (let many : a.hops ≡ b.hops = omega (arith, ints) in many)
