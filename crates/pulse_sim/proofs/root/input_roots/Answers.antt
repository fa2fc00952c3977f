use Rattle.std.proofs.Common.{◌≡◌, length, ap, ◌∙◌, arith}
use Rattle.std.proofs.lemmas.List.FromFn.{length-map-range_with_len, map-range_with_len_more}
use Rattle.pulse_sim.specs.Roots.{input_root}
use Rattle.pulse_sim.proofs.root.input_roots.Goals as goal

pub loop-input-preserved : goal.loop-input-preserved
loop-input-preserved c =
    let input = c.loop-input.input in
    let same = map-range_with_len_more input_root 0 input input (omega arith) in
    grind (arith, same, c.in_ok-push.ensures.items, c.loop-input.invariant)

pub returns-clause-count : goal.returns-clause-count
returns-clause-count c =
    let end : c.loop-input.input ≡ c.args.inputs = omega arith in
    ap length c.loop-input.invariant ∙ length-map-range_with_len input_root 0 c.loop-input.input ∙ end
