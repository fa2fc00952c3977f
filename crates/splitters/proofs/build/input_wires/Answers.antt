use Rattle.std.proofs.Common.{◌∷◌, [], ◌∙◌, Some, None, cond, ap, arith, length, length-append}
use Rattle.net_base.proofs.CallerLemmas.{bit-le}
use Rattle.splitters.proofs.wires.Inputs.{input_wires-pushed}
use Rattle.splitters.proofs.build.input_wires.Goals as goal

pub loop-i-preserved : goal.loop-i-preserved
loop-i-preserved c =
    record {
      wires =
          input_wires-pushed c.args.chained.now c.loop-i.i c.loop-i.next c.args.chained.now.gates.inputs c.in_ok-next.next c.is_used-used.result c.loop-i.wires.items c.push_wire.new.wires.items
          c.loop-i-test.true c.is_used-used.ensures c.in_ok-next.ensures.wires c.in_ok-next.ensures.next
          ∙ c.loop-i.invariant.wires;
      few = omega (arith, c.in_ok-next.ensures.next, bit-le c.is_used-used.result, c.loop-i.invariant.few);
      each = omega (arith, ap length c.in_ok-next.ensures.wires, length-append c.loop-i.wires.items (cond c.is_used-used.result (Some c.loop-i.next) None ∷ []), c.loop-i.invariant.each);
    }
