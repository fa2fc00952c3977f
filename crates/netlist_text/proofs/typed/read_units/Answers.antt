use Rattle.std.proofs.Common.{All, subst}
use Rattle.std.proofs.lemmas.List.{take_all}
use Rattle.std.proofs.lemmas.List.Elements.{All-more}
use Rattle.netlist_text.specs.Laws.{AreSmallUnits}
use Rattle.netlist_text.proofs.typed.read_units.Goals as goal

pub loop-one-preserved : goal.loop-one-preserved
loop-one-preserved c = All-more AreSmallUnits c.args.units.now c.loop-one.one-index _ c.loop-one-test.true c.loop-one.invariant (c.read_number.ensures, c.read_number-in-loop-one.ensures)

pub returns : goal.returns
returns c = subst (All AreSmallUnits) (take_all c.loop-one.one-index c.args.units.now c.loop-one-test.false) c.loop-one.invariant
