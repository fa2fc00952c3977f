use Rattle.std.proofs.Common.{◌≡◌, ◌≤◌, ◌++◌, ◌-◌}
use Rattle.gen_blif.specs.RippleCarry.{next_bits}
use Rattle.gen_blif.proofs.ripple_carry.push_bits.Given as goal

-- the text so far and the bits that are left are the whole
abbrev pub invariant-loop-bit : goal.invariant-loop-bit
invariant-loop-bit l = record {
  text : l.out.items ++ next_bits l.bits (l.bits - l.bit) l.bit ≡ l.initial.out.items ++ next_bits l.bits (l.bits - 1) 1;
  range : l.bit ≤ l.bits;
}

abbrev pub decreases-loop-bit : goal.decreases-loop-bit
decreases-loop-bit l = l.bits - l.bit
