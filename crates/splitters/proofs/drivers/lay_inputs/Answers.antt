use Rattle.std.proofs.Common.{None, ◌^◌}
use Rattle.splitters.specs.Elements.{with_inputs}
use Rattle.splitters.proofs.wires.Growth.{input-room}
use Rattle.splitters.proofs.drivers.lay_inputs.Goals as goal

pub lay_chain-requires-clause-room : goal.lay_chain-requires-clause-room
lay_chain-requires-clause-room c =
    input-room c.args.chained.now c.loop-i.i c.in-Some.wire c.args.wires.now c.loop-i.layout (with_inputs c.args.chained.now 0 c.args.wires.now c.args.layout.now)
    None (2 ^ 32) c.loop-i-test.true c.in-Some.is c.loop-i.invariant.layout c.requires.room
