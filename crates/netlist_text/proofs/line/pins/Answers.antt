use Rattle.std.proofs.Common.{◌≡◌, ◌-◌, ◌++◌, ◌∷◌, [], suc, List, ℕ, length, Some, sym, ap, ◌∙◌, arith}
use Rattle.std.proofs.lemmas.List.{length_push}
use Rattle.netlist_text.specs.Scanning.{field_at, pins_from}
use Rattle.netlist_text.proofs.FieldsRead.{pins_from-step}
use Rattle.netlist_text.proofs.line.pins.Goals as goal

pub loop-rest-preserved : goal.loop-rest-preserved
loop-rest-preserved c =
    let seen = c.loop-rest.pins in
    let pushed = c.in_ok-push.ensures.ok in
    let longer = length_push seen c.in-Some.pin in
    let new_len : length c.push.new.self ≡ length (seen ++ c.in-Some.pin ∷ []) = ap length pushed in
    let test = c.loop-rest-test.true in
    let len = c.len.ensures in
    let next : c.args.count - length seen ≡ suc (c.args.count - length c.push.new.self) = omega (arith, longer, new_len, test, len) in
    let read : field_at c.loop-rest.rest ≡ Some (c.in-Some.pin, c.in-Some.more) = sym c.in-Some.ensures in
    record {
      few = omega (arith, longer, new_len, test, len);
      whole =
          ap (λ (pins : List ℕ). pins_from (c.args.count - length c.push.new.self) pins c.in-Some.more) pushed
          ∙ pins_from-step (c.args.count - length seen) (c.args.count - length c.push.new.self) seen c.loop-rest.rest c.in-Some.pin c.in-Some.more next read
          ∙ c.loop-rest.invariant.whole;
    }
