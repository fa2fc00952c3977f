use Rattle.std.proofs.Common.{◌≡◌, length, ap, arith}
use Rattle.pulse_net.proofs.UnfoldedGateCount.{gates-inputs_is}
use Rattle.pulse_net.proofs.unfolding.trace_of.Goals as goal

pub pass_elements-requires : goal.pass_elements-requires
pass_elements-requires c =
    let none : length c.pass_inputs.new.trace.gates ≡ 0 = gates-inputs_is c.as_slice.result.now _ c.pass_inputs.new.trace c.in_ok-pass_inputs.ensures c.in_ok-trace.ensures in
    omega (arith, none, ap length c.as_slice-2.ensures, c.requires.few_elements)
