use Rattle.std.proofs.Common.{All, subst}
use Rattle.std.proofs.lemmas.List.{take_all}
use Rattle.std.proofs.lemmas.List.Elements.{All-more}
use Rattle.netlist_text.specs.Lines.{IsSmallOutlet}
use Rattle.netlist_text.proofs.typed.read_outlets.Goals as goal

pub loop-outlet-preserved : goal.loop-outlet-preserved
loop-outlet-preserved c = All-more IsSmallOutlet c.args.outlets.now c.loop-outlet.outlet-index _ c.loop-outlet-test.true c.loop-outlet.invariant c.read_outlet.ensures

pub returns : goal.returns
returns c = subst (All IsSmallOutlet) (take_all c.loop-outlet.outlet-index c.args.outlets.now c.loop-outlet-test.false) c.loop-outlet.invariant
