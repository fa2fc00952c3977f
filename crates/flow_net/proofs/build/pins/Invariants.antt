use Rattle.std.proofs.Common.{◌≡◌, ◌++◌, drop, map}
use Rattle.flow_net.specs.Network.{pin_by}
use Rattle.flow_net.proofs.build.pins.Given as goal

abbrev pub invariant-loop-one : goal.invariant-loop-one
invariant-loop-one l = l.pins.items ++ map (pin_by l.numbers l.inputs l.phases) (drop l.one-index l.uses) ≡ map (pin_by l.numbers l.inputs l.phases) l.uses
