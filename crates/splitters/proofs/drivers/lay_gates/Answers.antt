use Rattle.std.proofs.Common.{◌≡◌, ◌<◌, ◌+◌, ◌^◌, ◌∙◌, List, length, get_or, refl, ap, sym, subst, arith}
use Rattle.gate_net.specs.declared.row.GateRow.{GateRow}
use Rattle.splitters.specs.Elements.{with_gate, with_gates}
use Rattle.splitters.proofs.wires.Growth.{gate-room}
use Rattle.splitters.proofs.wires.Steps.{gate_pins-le}
use Rattle.splitters.proofs.drivers.lay_gates.Goals as goal

pub loop-gate-init : goal.loop-gate-init
loop-gate-init c = record {
  rows = c.as_slice-row-items.ensures;
  layout = refl;
  room = omega (arith, gate_pins-le c.args.chained.now.gates);
  pins = refl;
}

pub lay_gate-requires-clause-room : goal.lay_gate-requires-clause-room
lay_gate-requires-clause-room c =
    let rows = c.args.chained.now.gates.gates in
    let row : c.row-item.result ≡ get_or rows c.loop-gate.gate c.row-item.result = c.row-item.is ∙ ap (λ (rs : List GateRow). get_or rs c.loop-gate.gate c.row-item.result) c.loop-gate.invariant.rows in
    let within : c.loop-gate.gate < length rows = omega (arith, c.loop-gate-test.true, ap length c.loop-gate.invariant.rows) in
    subst (λ (one : GateRow). (with_gate c.args.chained.now c.loop-gate.gate c.loop-gate.pin one c.loop-gate.layout).next + 2 < 2 ^ 32) (sym row)
    (gate-room c.args.chained.now c.loop-gate.gate c.loop-gate.pin rows c.loop-gate.layout (with_gates c.args.chained.now 0 0 rows c.args.layout.now)
    c.row-item.result (2 ^ 32) within c.loop-gate.invariant.layout c.requires.room)
