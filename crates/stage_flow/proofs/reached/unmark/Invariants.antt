use Rattle.std.proofs.Common.{◌≡◌, ◌&&◌, ℕ, not, nat_eq, length, take}
use Rattle.net_base.specs.Keys.{is_among}
use Rattle.stage_flow.specs.Passes.{mark_at}
use Rattle.stage_flow.proofs.reached.unmark.Given as goal

abbrev pub invariant-loop-place : goal.invariant-loop-place
invariant-loop-place l = record {
  long : length l.marks ≡ length l.fn.marks;
  marks : (vertex : ℕ) → mark_at l.marks vertex ≡ (mark_at l.fn.marks vertex && not (is_among nat_eq vertex (take l.place l.vertices)));
}
