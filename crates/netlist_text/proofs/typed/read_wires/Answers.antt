use Rattle.std.proofs.Common.{All, subst}
use Rattle.std.proofs.lemmas.List.{take_all}
use Rattle.std.proofs.lemmas.List.Elements.{All-more}
use Rattle.netlist_text.specs.Lines.{IsSmallWire}
use Rattle.netlist_text.proofs.typed.read_wires.Goals as goal

pub loop-wire-preserved : goal.loop-wire-preserved
loop-wire-preserved c = All-more IsSmallWire c.args.wires.now c.loop-wire.wire-index _ c.loop-wire-test.true c.loop-wire.invariant c.read_wire.ensures

pub returns : goal.returns
returns c = subst (All IsSmallWire) (take_all c.loop-wire.wire-index c.args.wires.now c.loop-wire-test.false) c.loop-wire.invariant
