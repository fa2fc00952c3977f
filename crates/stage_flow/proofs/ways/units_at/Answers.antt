use Rattle.std.proofs.Common.{◌≡◌, ◌==◌, ◌%◌, ◌/◌, ◌∙◌, cond, true, false, sym, ap, arith}
use Rattle.std.proofs.lemmas.Bool.Decides.{nat_tests}
use Rattle.std.proofs.lemmas.Option.{get_or_from_slice_get}
use Rattle.flow_net.specs.declared.net.Units.{Units}
use Rattle.stage_flow.specs.Sending.{side}
use Rattle.stage_flow.proofs.Units.{units-at}
use Rattle.stage_flow.proofs.ways.units_at.Goals as goal

pub returns-then-number-eq0 : goal.returns-then-number-eq0
returns-then-number-eq0 c =
    let d : Units = c.get-units.result.now in
    let test : (c.args.number % 2 == 0) ≡ true = grind (arith, nat_tests) in
    sym (units-at c.args.flow.now.pins c.args.number d c.requires
    ∙ ap (side c.args.number) (get_or_from_slice_get c.args.flow.now.pins (c.args.number / 2) d d c.get-units.ensures)
    ∙ ap (λ b. cond b d.forward d.back) test)

pub returns-else-number-eq0 : goal.returns-else-number-eq0
returns-else-number-eq0 c =
    let d : Units = c.get-units.result.now in
    let test : (c.args.number % 2 == 0) ≡ false = grind (arith, nat_tests) in
    sym (units-at c.args.flow.now.pins c.args.number d c.requires
    ∙ ap (side c.args.number) (get_or_from_slice_get c.args.flow.now.pins (c.args.number / 2) d d c.get-units.ensures)
    ∙ ap (λ b. cond b d.forward d.back) test)
