use Rattle.std.proofs.Common.{◌≡◌, ◌<◌, ℕ, [], length, map, get_or}
use Rattle.stage_flow.proofs.offers.empty_all.Given as goal

abbrev pub invariant-loop-place : goal.invariant-loop-place
invariant-loop-place l = (length l.lists.items ≡ length l.fn.lists.items) × ((other : ℕ) → other < l.place → get_or (map (λ list. list.items) l.lists.items) other [] ≡ [])
