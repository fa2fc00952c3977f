use Rattle.std.proofs.Common.{◌≡◌, ℕ, ℤ, Bool, length}
use Rattle.stage_flow.specs.Residual.{vertex_count}
use Rattle.stage_flow.specs.Passes.{IsTarget, HaveCome}
use Rattle.stage_flow.proofs.passes.pass_all.Given as goal

abbrev pub invariant-loop-count : goal.invariant-loop-count
invariant-loop-count l = record {
  each : (length l.far ≡ vertex_count l.net) × (length l.hops ≡ vertex_count l.net);
  come : (starts : ℕ → Bool) (lengths : ℕ → ℤ) (counts : ℕ → ℕ) → IsTarget l.net l.flow starts lengths counts → HaveCome lengths counts 0 l.fn.far l.fn.hops → HaveCome lengths counts l._count l.far l.hops;
}
