use Rattle.std.proofs.Common.{◌∙◌, length, sym, ap, arith}
use Rattle.stage_flow.proofs.ReachedVertices.{there-low, none-left}
use Rattle.stage_flow.proofs.reached.Reached.clear.Goals as goal

pub unmark-requires : goal.unmark-requires
unmark-requires c =
    let it = c.args.self.now in
    rw (c.as_slice.ensures.value, c.as_mut_slice.ensures.value) (there-low it.marks.items it.keys.items it.there)

pub invariant_of-self : goal.invariant_of-self
invariant_of-self c =
    let it = c.args.self.now in
    record {
      there = none-left it.marks.items c.unmark.new.marks it.keys.items c.clear.new.self.items it.marks.len it.there
          (omega (arith, it.marks.ok.0))
          (c.unmark.ensures.length ∙ ap length c.as_mut_slice.ensures.value)
          (rw (sym c.as_slice.ensures.value, sym c.as_mut_slice.ensures.value) c.unmark.ensures.marks)
          c.clear.ensures.items;
    }
