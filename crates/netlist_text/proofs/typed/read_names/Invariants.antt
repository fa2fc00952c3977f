use Rattle.std.specs.Prelude.{All, take}
use Rattle.net_base.specs.Name.{IsName}
use Rattle.netlist_text.proofs.typed.read_names.Given as goal

-- those read so far are
abbrev pub invariant-loop-name : goal.invariant-loop-name
invariant-loop-name l = All IsName (take l.name-index l.names)
