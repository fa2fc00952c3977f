use Rattle.std.proofs.Common.{◌≡◌, ◌++◌, drop, map}
use Rattle.flow_net.specs.Epochs.{need_of}
use Rattle.dro_chains.proofs.parts.needs.Given as goal

abbrev pub invariant-loop-pin : goal.invariant-loop-pin
invariant-loop-pin l = l.needs.items ++ map (need_of l.epochs) (drop l.pin-index l.pins) ≡ map (need_of l.epochs) l.pins
