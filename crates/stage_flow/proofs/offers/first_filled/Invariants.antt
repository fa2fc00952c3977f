use Rattle.std.proofs.Common.{◌≡◌, ◌<◌, ◌≤◌, ◌-◌, ℕ, [], length, map, get_or}
use Rattle.stage_flow.proofs.offers.first_filled.Given as goal

abbrev pub invariant-loop-place : goal.invariant-loop-place
invariant-loop-place l = (other : ℕ) → other < l.place → l.from ≤ other → length (get_or (map (λ list. list.items) l.lists) other []) ≡ 0

abbrev pub decreases-loop-place : goal.decreases-loop-place
decreases-loop-place l = length l.lists - l.place
