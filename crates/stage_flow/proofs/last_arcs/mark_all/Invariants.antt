use Rattle.std.proofs.Common.{◌≡◌, ℕ, true, false, get_or, length}
use Rattle.stage_flow.specs.Given.{at_vertex, count_at}
use Rattle.stage_flow.specs.Search.{HoldsSomewhere, IsLastInto}
use Rattle.stage_flow.proofs.last_arcs.mark_all.Given as goal

abbrev pub invariant-loop-place : goal.invariant-loop-place
invariant-loop-place l = (vertex : ℕ) → get_or l.marks vertex false ≡ true → HoldsSomewhere (IsLastInto (at_vertex l.far) (count_at l.hops) (length l.far) vertex) l.net l.flow l.place
