use Rattle.std.proofs.Common.{◌≡◌, ℕ, [], length, map, get_or}
use Rattle.stage_flow.proofs.offers.no_lists.Given as goal

abbrev pub invariant-loop : goal.invariant-loop
invariant-loop l = (length l.lists.items ≡ l.counter) × ((place : ℕ) → get_or (map (λ list. list.items) l.lists.items) place [] ≡ [])
