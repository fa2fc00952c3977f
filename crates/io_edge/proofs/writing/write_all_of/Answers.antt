use Rattle.std.proofs.Common.{arith}
use Rattle.std.proofs.lemmas.List.{take_rest, length-drop}
use Rattle.io_edge.proofs.Gains.{Gains-more, AreLater-more}
use Rattle.io_edge.proofs.writing.write_all_of.Goals as goal

pub loop-taken-preserved : goal.loop-taken-preserved
loop-taken-preserved g c =
    let rest = take_rest c.args.bytes.now c.loop-taken.taken in
    let within = rw rest at c.in-Ok.ensures.within in
    record {
      inside = omega (arith, within, length-drop c.loop-taken.taken c.args.bytes.now);
      gained = Gains-more _ _ _ _ _ _ c.loop-taken.invariant.gained (rw rest at c.in-Ok.ensures.moved);
      counts = AreLater-more _ _ _ c.loop-taken.invariant.counts c.in-Ok.ensures.counts;
      untouched = λ none. absurd (omega arith);
    }
