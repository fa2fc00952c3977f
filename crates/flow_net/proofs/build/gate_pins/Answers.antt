use Rattle.std.proofs.Common.{◌≡◌, length, get_or, ap, arith}
use Rattle.std.proofs.lemmas.Grind.{common_steps}
use Rattle.gate_net.specs.declared.row.GateRow.{GateRow}
use Rattle.cell_lib.specs.Cell.{arity_of}
use Rattle.cell_lib.proofs.CallerLemmas.{arity_of-few}
use Rattle.flow_net.proofs.build.gate_pins.Goals as goal

-- A gate has three pins at most.
pub loop-row-preserved : goal.loop-row-preserved
loop-row-preserved c =
    let row = c.row-item.result in
    let here = get_or c.args.rows.now c.loop-row.row-index row in
    let pins : length row.pins ≡ length here.pins = ap (λ (r : GateRow). length r.pins) c.row-item.is in
    let arity : length here.pins ≡ arity_of here.cell = (c.requires.gates c.loop-row.row-index row c.loop-row-test.true).arity in
    (grind (arith, common_steps), omega (arith, pins, arity, arity_of-few here.cell, c.len.ensures, c.loop-row.invariant.1))
