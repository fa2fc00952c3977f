use Rattle.std.proofs.Common.{◌≡◌, ◌*◌, pos, ◌+ℤ◌, ◌-ℤ◌, ◌≤ℤ◌, drop}
use Rattle.flow_net.specs.Arcs.{arcs_from}
use Rattle.flow_net.specs.Flows.{value_on, flow_value as flow_value_of}
use Rattle.flow_cert.proofs.value.flow_value.Given as goal

abbrev pub invariant-loop-i : goal.invariant-loop-i
invariant-loop-i l =
    (l.value +ℤ value_on l.flow (arcs_from l.net l.i (drop l.i l.net.pins)) ≡ flow_value_of l.net l.flow)
    × ((pos 0 -ℤ pos (4294967296 * l.i)) ≤ℤ l.value)
    × (l.value ≤ℤ pos (4294967296 * l.i))
