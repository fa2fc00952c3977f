use Rattle.std.proofs.Common.{◌≡◌, ◌∙◌, List, Bool, false, length, get_or, sym, ap, arith, rules}
use Rattle.stage_flow.specs.Residual.{vertex_count}
use Rattle.std.proofs.lemmas.Int.{ints}
use Rattle.stage_flow.proofs.SearchTests.{lengths-tested}
use Rattle.stage_flow.proofs.last_arcs.are_lengths.Goals as goal

pub returns-clause-labels : goal.returns-clause-labels
returns-clause-labels c = λ yes.
    let net = c.args.net.now in
    let flow = c.args.flow.now in
    let far = c.args.far.now in
    let hops = c.args.hops.now in
    let marks = c.as_slice.result.now in
    let longs = ap (λ (xs : List Bool). length xs) c.as_slice.ensures.value in
    let many : length c.args.far.now ≡ vertex_count c.args.net.now = omega (arith, c.if-far-count.false, c.vertices-count.ensures.value) in
    let long : length c.as_slice.result.now ≡ vertex_count c.args.net.now = omega (arith, longs, c.in_ok-marks.ensures.each, many) in
    lengths-tested net flow far hops marks c.requires.each many (omega (arith, ints, c.if-far-ne0.false)) c.if-hops-ne0.false
    (c.if-not-fits_all.ensures (search rules))
    (λ vertex marked. c.in_ok-marks.ensures.last vertex (sym (ap (λ (xs : List Bool). get_or xs vertex false) c.as_slice.ensures.value) ∙ marked))
    (λ vertex low. let few = c.are_reached.ensures.few yes vertex (omega (arith, low, long)) in omega (arith, few, long))
    (λ vertex low. c.are_reached.ensures.marked yes vertex (omega (arith, low, long)))
