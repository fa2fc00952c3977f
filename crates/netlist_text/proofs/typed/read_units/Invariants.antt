use Rattle.std.specs.Prelude.{All, take}
use Rattle.netlist_text.specs.Laws.{AreSmallUnits}
use Rattle.netlist_text.proofs.typed.read_units.Given as goal

-- those read so far are
abbrev pub invariant-loop-one : goal.invariant-loop-one
invariant-loop-one l = All AreSmallUnits (take l.one-index l.units)
