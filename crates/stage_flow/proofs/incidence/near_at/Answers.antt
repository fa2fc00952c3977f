use Rattle.std.proofs.Common.{◌≡◌, ◌/◌, ◌%◌, ◌==◌, ◌∙◌, ℕ, true, false, cond, sym, ap, arith}
use Rattle.std.proofs.lemmas.Bool.Decides.{nat_tests}
use Rattle.std.proofs.lemmas.Option.{get_or_from_slice_get}
use Rattle.flow_net.specs.declared.net.Pin.{Pin}
use Rattle.stage_flow.proofs.SendingArcs.{back-low}
use Rattle.stage_flow.proofs.NearRows.{near-read}
use Rattle.stage_flow.proofs.incidence.near_at.Goals.{then-number-eq0, else-number-eq0, then-tail-vertex, else-tail-vertex}
use Rattle.stage_flow.proofs.incidence.near_at.Goals as goal

pub overflow_add-tail-else-number-eq0 : goal.overflow_add-tail-else-number-eq0
overflow_add-tail-else-number-eq0 c =
    let pin : Pin = c.get-pin.result.now in
    let low = back-low c.args.net.now c.args.number c.requires.ends c.requires.pin c.if-number-eq0.false in
    let same = ap (λ (p : Pin). p.driver) (get_or_from_slice_get c.args.net.now.pins (c.args.number / 2) pin (record { driver = 0; from = 0; to = 0; weight = 0 }) c.get-pin.ensures) in
    omega (arith, low, same, c.requires.vertices)

pub overflow_add-result : goal.overflow_add-result
overflow_add-result c =
    let pin : Pin = c.get-pin.result.now in
    let none : Pin = record { driver = 0; from = 0; to = 0; weight = 0 } in
    let same = ap (λ (p : Pin). p.weight) (get_or_from_slice_get c.args.net.now.pins (c.args.number / 2) pin none c.get-pin.ensures) in
    let weight = c.requires.light (c.args.number / 2) none c.requires.pin in
    omega (arith, weight, same, c.requires.pin, c.requires.few)

pub returns : goal.returns
returns c =
    let net = c.args.net.now in
    let number = c.args.number in
    let pin : Pin = c.get-pin.result.now in
    let ends : ℕ × ℕ = c.if-number-eq0.tail in
    let is = get_or_from_slice_get net.pins (number / 2) pin (record { driver = 0; from = 0; to = 0; weight = 0 }) c.get-pin.ensures in
    let other : c.if-tail-vertex.result ≡ cond (ends.0 == c.args.vertex) ends.1 ends.0 =
    elim c.if-tail-vertex.branch [
      | then-tail-vertex v ↦ (let same = v.if-tail-vertex.true in
          let test : (ends.0 == c.args.vertex) ≡ true = grind (arith, nat_tests) in
          v.result-is ∙ ap (λ b. cond b ends.1 ends.0) (sym test))
      | else-tail-vertex v ↦ (let differs = v.if-tail-vertex.false in
          let test : (ends.0 == c.args.vertex) ≡ false = grind (arith, nat_tests) in
          v.result-is ∙ ap (λ b. cond b ends.1 ends.0) (sym test))
    ] in
    elim c.if-number-eq0.branch [
      | then-number-eq0 w ↦ (let even = w.if-number-eq0.true in
          let test : (number % 2 == 0) ≡ true = grind (arith, nat_tests) in
          near-read net c.args.vertex number c.if-tail-vertex.result pin ends true test is w.tail-is other)
      | else-number-eq0 w ↦ (let odd = w.if-number-eq0.false in
          let test : (number % 2 == 0) ≡ false = grind (arith, nat_tests) in
          near-read net c.args.vertex number c.if-tail-vertex.result pin ends false test is w.tail-is other)
    ]
