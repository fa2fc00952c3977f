use Rattle.std.specs.Prelude.{All, take}
use Rattle.netlist_text.specs.Lines.{IsSmallWire}
use Rattle.netlist_text.proofs.typed.read_wires.Given as goal

-- those read so far are
abbrev pub invariant-loop-wire : goal.invariant-loop-wire
invariant-loop-wire l = All IsSmallWire (take l.wire-index l.wires)
