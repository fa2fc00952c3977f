-- The adders of one bit and of two: a false definition fails here.
use Rattle.std.proofs.Common.{◌≡◌, codes, refl}
use Rattle.std.specs.Fmt.{digits}
use Rattle.gen_laws.specs.Named.{named_text}
use Rattle.gen_laws.specs.RippleCarry.{adder_design}

text_of_one_bit : named_text (adder_design 1) ≡ codes ".model adder\n.inputs a0 b0\n.outputs s0 s1\n.names a0 b0 s0\n10 1\n01 1\n.names a0 b0 s1\n11 1\n.end\n"
unfolding digits
text_of_one_bit = refl

text_of_two_bits : named_text (adder_design 2) ≡ codes ".model adder\n.inputs a0 a1 b0 b1\n.outputs s0 s1 s2\n.names a0 b0 s0\n10 1\n01 1\n.names a0 b0 c1\n11 1\n.names a1 b1 c1 s1\n100 1\n010 1\n001 1\n111 1\n.names a1 b1 c1 s2\n11- 1\n1-1 1\n-11 1\n.end\n"
unfolding digits
text_of_two_bits = refl
