-- Longest walks in a residual network from one vertex, and among these the ones with the fewest arcs.
use Rattle.std.specs.Prelude.{◌==◌, ◌+◌, ◌&&◌, ◌||◌, ◌+ℤ◌, ℕ, ℤ, zero, suc, pos, nat_lt, Bool, not, cond, List, [], ◌∷◌, Option, Some, None, int_lt}
use Rattle.stage_flow.specs.Residual.{Way}

-- how far a walk goes: its length, and its number of arcs
pub record Reach : Type 0 where
  pub length : ℤ
  pub hops : ℕ

-- a reach is better than another: longer, or as long with fewer arcs
abbrev pub is_better : Reach → Reach → Bool
is_better a b = int_lt b.length a.length || (not (int_lt a.length b.length) && nat_lt a.hops b.hops)

-- the better of two that may be there; of equal ones the first
abbrev pub better : Option Reach → Option Reach → Option Reach
better None b = b
better (Some a) None = Some a
better (Some a) (Some b) = cond (is_better b a) (Some b) (Some a)

-- a walk that goes on by a residual arc
abbrev pub by_way : Way → Option Reach → Option Reach
by_way way None = None
by_way way (Some reach) = Some (record { length = reach.length +ℤ way.length; hops = reach.hops + 1 })

-- the best of the walks that come into a vertex by one of these residual arcs, given the best into each vertex
abbrev pub best_into : (ℕ → Option Reach) → List Way → ℕ → Option Reach
best_into best [] vertex = None
best_into best (way ∷ ways) vertex =
    cond (way.head == vertex) (better (by_way way (best way.tail)) (best_into best ways vertex)) (best_into best ways vertex)

-- the best of the walks with at most so many arcs from a vertex to another
abbrev pub best_within : List Way → ℕ → ℕ → ℕ → Option Reach
best_within ways from zero vertex = cond (vertex == from) (Some (record { length = pos 0; hops = 0 })) None
best_within ways from (suc arcs) vertex = better (best_within ways from arcs vertex) (best_into (best_within ways from arcs) ways vertex)
