use Rattle.std.proofs.Common.{◌≡◌, ◌+◌, ◌+ℤ◌, ◌-ℤ◌, ◌∙◌, pos, FitsSigned, get_or, rules, ap, arith, to_z, of_z}
use mir.Syntax.{w64, w128}
use Rattle.std.proofs.lemmas.Int.{ints}
use Rattle.stage_flow.specs.LawsOfWalks.{led_by}
use Rattle.stage_flow.specs.Sending.{way_of}
use Rattle.stage_flow.specs.Passes.{standing, reach_by}
use Rattle.stage_flow.specs.Mending.{cost}
use Rattle.stage_flow.proofs.mending.offer_over.Goals as goal

pub returns : goal.returns
returns c =
    let step = c.args.step in
    let far = c.args.far.now in
    let hops = c.args.hops.now in
    let low = c.requires.low in
    let high = c.requires.high in
    let few = c.requires.few in
    let fits_step : FitsSigned w64 step.length = search rules in
    let fits_own : FitsSigned w64 (get_or far step.tail (pos 0)) = search rules in
    let fits_head : FitsSigned w64 (get_or far step.head (pos 0)) = search rules in
    let same : to_z w64 (of_z w64 (get_or far step.tail (pos 0))) ≡ get_or far step.tail (pos 0) = omega (arith, ints) in
    let length : to_z w64 (of_z w64 (to_z w64 (of_z w64 step.length) +ℤ to_z w64 (of_z w64 (get_or far step.head (pos 0))))) ≡ step.length +ℤ get_or far step.head (pos 0) = omega (arith, ints) in
    let own : c.cost_of-own.result ≡ cost (standing far hops step.tail) = c.cost_of-own.ensures ∙ ap (λ z. cost (reach_by z (get_or hops step.tail 0))) same in
    let led : c.cost_of.result ≡ cost (led_by (way_of step) (standing far hops step.head)) = c.cost_of.ensures ∙ ap (λ z. cost (reach_by z (get_or hops step.head 0 + 1))) length in
    let gain : to_z w128 (of_z w128 (to_z w128 (of_z w128 c.cost_of-own.result) -ℤ to_z w128 (of_z w128 c.cost_of.result))) ≡ cost (standing far hops step.tail) -ℤ cost (led_by (way_of step) (standing far hops step.head)) =
    omega (arith, ints, own, led, c.type_inv.hops step.tail, c.type_inv.hops step.head) in
    λ i. record { gain = gain i; far = length i; hops = get_or hops step.head 0 + 1; vertex = step.tail }
