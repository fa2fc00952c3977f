use Rattle.std.proofs.Common.{◌≡◌, ◌++◌, ◌+◌, ◌-◌, arith, refl, sym, ap, ◌∙◌, append_assoc, append-nil}
use Rattle.gen_blif.proofs.Steps.{next_bits-first, next_bits-none}
use Rattle.gen_blif.proofs.ripple_carry.push_bits.Goals as goal

pub loop-bit-preserved : goal.loop-bit-preserved
loop-bit-preserved c =
    let left = c.args.bits - c.loop-bit.bit in
    let step = next_bits-first c.args.bits left c.loop-bit.bit (omega arith) in
    let same : c.args.bits - (c.loop-bit.bit + 1) ≡ left - 1 = omega arith in
    record {
      text = rw (c.in_ok-push_next.ensures, append_assoc, same, ← step) c.loop-bit.invariant.text;
      range = omega arith;
    }

pub returns : goal.returns
returns c =
    let end = next_bits-none c.args.bits (c.args.bits - c.loop-bit.bit) c.loop-bit.bit (omega arith) in
    let whole = sym (append-nil c.loop-bit.out.items) ∙ ap (λ bits. c.loop-bit.out.items ++ bits) (sym end) ∙ c.loop-bit.invariant.text in
    rw (whole, c.in_ok-push_first.ensures, append_assoc) refl
