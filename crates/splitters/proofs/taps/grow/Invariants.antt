use Rattle.std.proofs.Common.{◌≡◌, ◌≤◌, ◌+◌, ◌-◌, ℕ, max, length}
use Rattle.splitters.specs.Table.{tap_at}
use Rattle.splitters.proofs.taps.grow.Given as goal

abbrev pub invariant-loop-alloc : goal.invariant-loop-alloc
invariant-loop-alloc l = record {
  count : max (length l.taps.items) (l.need + 1) ≡ max (length l.initial.taps.items) (l.need + 1);
  most : length l.taps.items ≤ max (length l.initial.taps.items) (l.need + 1);
  same : (k : ℕ) → tap_at l.taps.items k ≡ tap_at l.initial.taps.items k;
}

abbrev pub decreases-loop-alloc : goal.decreases-loop-alloc
decreases-loop-alloc l = l.need + 1 - length l.taps.items
