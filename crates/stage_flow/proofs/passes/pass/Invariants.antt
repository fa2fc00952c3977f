use Rattle.std.proofs.Common.{◌≡◌, ℕ, ℤ, length}
use Rattle.stage_flow.specs.Search.{HoldsBelow}
use Rattle.stage_flow.specs.Passes.{OffersNoBetter, AreUnder, Nears, Brings}
use Rattle.stage_flow.proofs.passes.pass.Given as goal

abbrev pub invariant-loop-place : goal.invariant-loop-place
invariant-loop-place l = record {
  each : (length l.far ≡ length l.fn.far) × (length l.hops ≡ length l.fn.far);
  nears : (lengths : ℕ → ℤ) (counts : ℕ → ℕ) → HoldsBelow (OffersNoBetter lengths counts) l.net l.flow (length l.net.pins) → AreUnder lengths counts l.fn.far l.fn.hops
      → Nears lengths counts l.fn.far l.fn.hops l.far l.hops × HoldsBelow (Brings lengths counts l.fn.far l.fn.hops l.far l.hops) l.net l.flow l.place;
}
