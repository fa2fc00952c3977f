use Rattle.std.proofs.Common.{arith}
use Rattle.splitters.proofs.wires.Growth.{gate-grows}
use Rattle.splitters.proofs.drivers.lay_gate.Goals as goal

pub cell-requires : goal.cell-requires
cell-requires c = omega (arith, gate-grows c.args.chained.now c.args.gate c.args.pin c.args.row.now c.args.layout.now, c.requires.room)
