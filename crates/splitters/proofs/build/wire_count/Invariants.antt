use Rattle.std.proofs.Common.{◌≡◌, ◌≤◌, ◌+◌, drop}
use Rattle.splitters.specs.Elements.{wire_count}
use Rattle.splitters.proofs.build.wire_count.Given as goal

abbrev pub invariant-loop-wire : goal.invariant-loop-wire
invariant-loop-wire l = (l.count + wire_count (drop l.wire-index l.wires) ≡ wire_count l.wires) × (l.count ≤ l.wire-index)
