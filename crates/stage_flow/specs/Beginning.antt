-- Labels to begin with: nothing at the mirrors that want, and at every other vertex no worse than its label can be.
use Rattle.std.specs.Prelude.{◌≡◌, ◌<◌, ◌^◌, ◌≤ℤ◌, ◌-ℤ◌, ℕ, ℤ, pos, Bool, true, not, cond, List, length}
use Rattle.stage_flow.specs.Given.{at_vertex, count_at}
use Rattle.stage_flow.specs.Passes.{mark_at}

-- a number is the greatest of those at marked vertices, or no less
pub record IsTop (marks : List Bool) (numbers : List ℤ) (top : ℤ) : Type 0 where
  pub below : (vertex : ℕ) → mark_at marks vertex ≡ true → at_vertex numbers vertex ≤ℤ top
  pub low : (pos 0 -ℤ pos (2 ^ 40)) ≤ℤ top
  pub high : top ≤ℤ pos (2 ^ 40)

-- how far a vertex is at most: nothing where it is marked, and else as far as its number is below the top
abbrev pub most_at : List Bool → List ℤ → ℤ → ℕ → ℤ
most_at marks numbers top vertex = cond (mark_at marks vertex) (pos 0) (top -ℤ at_vertex numbers vertex)

-- labels are as long as can be, and by no arcs
pub record AreAtMost (marks : List Bool) (numbers far : List ℤ) (hops : List ℕ) : Type 0 where
  pub top : ℤ
  pub is_top : IsTop marks numbers top
  pub lengths : (vertex : ℕ) → vertex < length marks → at_vertex far vertex ≡ most_at marks numbers top vertex
  pub arcs : (vertex : ℕ) → count_at hops vertex ≡ 0

-- marks of the vertices that others leave out
abbrev pub AreOthers : List Bool → List Bool → Type 0
AreOthers marks others = (vertex : ℕ) → vertex < length marks → mark_at others vertex ≡ not (mark_at marks vertex)
