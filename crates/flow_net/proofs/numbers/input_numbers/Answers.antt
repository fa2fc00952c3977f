use Rattle.std.proofs.Common.{◌≡◌, ◌≤◌, ◌∙◌, length, ap, arith}
use Rattle.flow_net.specs.Uses.{marked_below}
use Rattle.flow_net.proofs.NumberLemmas.{marked_below-used}
use Rattle.flow_net.proofs.numbers.input_numbers.Goals as goal

pub returns-clause-value : goal.returns-clause-value
returns-clause-value c = λ i within.
    let marks = c.in_ok-marks.marks.items in
    let slice : c.as_slice.result.now ≡ marks = c.as_slice.ensures.value in
    let each : length marks ≡ c.args.inputs = c.in_ok-marks.ensures.each in
    let long : i ≤ length c.as_slice.result.now = omega (arith, ap length slice) in
    c.in_ok-counts.ensures.value i long
    ∙ ap (λ ms. marked_below ms i) slice
    ∙ marked_below-used marks c.args.uses.now c.args.inputs c.in_ok-marks.ensures.value i within
