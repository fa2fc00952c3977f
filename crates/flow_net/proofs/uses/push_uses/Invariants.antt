use Rattle.std.proofs.Common.{◌≡◌, ◌++◌, drop, map}
use Rattle.flow_net.specs.Uses.{use_by}
use Rattle.flow_net.proofs.uses.push_uses.Given as goal

abbrev pub invariant-loop-pin : goal.invariant-loop-pin
invariant-loop-pin l = l.uses.items ++ map (use_by l.user) (drop l.pin-index l.pins) ≡ l.initial.uses.items ++ map (use_by l.user) l.pins
