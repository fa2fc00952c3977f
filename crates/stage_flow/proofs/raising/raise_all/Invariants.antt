use Rattle.std.proofs.Common.{◌≡◌, ℕ, length}
use Rattle.stage_flow.specs.Given.{count_at}
use Rattle.stage_flow.specs.Raising.{lifted}
use Rattle.stage_flow.proofs.RaisedLabels.{AreListedFrom}
use Rattle.stage_flow.proofs.raising.raise_all.Given as goal

abbrev pub invariant-loop-vertex : goal.invariant-loop-vertex
invariant-loop-vertex l = record {
  each : (length l.hops ≡ length l.initial.hops) × (length l.heights ≡ length l.initial.heights);
  raised : (vertex : ℕ) → lifted (count_at l.hops) l.heights l.floor vertex ≡ lifted (count_at l.initial.hops) l.initial.heights l.floor vertex;
  listed : AreListedFrom l.heights l.reached l.vertex-index;
}
