use Rattle.std.proofs.Common.{◌≡◌, ◌≤◌, ◌+◌, ◌*◌, length, drop}
use Rattle.splitters.specs.Elements.{with_chain}
use Rattle.splitters.proofs.layout.Layout.lay_chain.Given as goal

abbrev pub invariant-loop-k : goal.invariant-loop-k
invariant-loop-k l = record {
  chain : with_chain l.n l.stage l.wire (drop l.k l.taps) l.self ≡ with_chain l.n l.initial.stage l.initial.wire l.taps l.initial.self;
  stage : l.stage ≤ l.initial.stage + l.n * l.k;
  pins : length l.self.taken ≡ length l.initial.self.taken;
}
