use Rattle.std.proofs.Common.{◌≡◌, ◌<◌, ℕ}
use Rattle.stage_flow.specs.Search.{is_wanting_by}
use Rattle.stage_flow.specs.Passes.{mark_at}
use Rattle.stage_flow.proofs.mirrors.wanting_of.Given as goal

abbrev pub invariant-loop-vertex : goal.invariant-loop-vertex
invariant-loop-vertex l = (vertex : ℕ) → vertex < l.vertex → mark_at l.marks.items vertex ≡ is_wanting_by l.net.gates l.received vertex
