use Rattle.std.proofs.Common.{◌≡◌, ◌≤◌, ◌-◌, ◌^◌, ◌⊎◌, take, All, Contains}
use Rattle.stage_flow.specs.Given.{count_at}
use Rattle.stage_flow.proofs.tight.least_end.Given as goal

abbrev pub invariant-loop-vertex : goal.invariant-loop-vertex
invariant-loop-vertex l =
    All (λ vertex. count_at l.hops vertex ≡ 0 → l.least ≤ vertex) (take l.vertex-index l.reached)
    × ((l.least ≡ 2 ^ 32 - 1) ⊎ (Contains l.reached l.least × (count_at l.hops l.least ≡ 0)))
