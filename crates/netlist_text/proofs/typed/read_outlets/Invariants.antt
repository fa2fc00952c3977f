use Rattle.std.specs.Prelude.{All, take}
use Rattle.netlist_text.specs.Lines.{IsSmallOutlet}
use Rattle.netlist_text.proofs.typed.read_outlets.Given as goal

-- those read so far are
abbrev pub invariant-loop-outlet : goal.invariant-loop-outlet
invariant-loop-outlet l = All IsSmallOutlet (take l.outlet-index l.outlets)
