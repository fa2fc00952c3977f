use Rattle.std.proofs.Common.{◌^◌, ◌∙◌, length, ap, arith}
use Rattle.splitters.specs.Elements.{with_chain}
use Rattle.splitters.proofs.wires.Growth.{dro-room}
use Rattle.splitters.proofs.layout.Layout.lay_chain.Goals as goal

pub lay_dro-requires-clause-room : goal.lay_dro-requires-clause-room
lay_dro-requires-clause-room c =
    let whole = with_chain c.args.n c.args.stage c.args.wire c.args.taps.now c.args.self.now in
    let room = dro-room c.args.n c.loop-k.stage c.loop-k.wire c.args.taps.now c.loop-k.self whole c.loop-k.k (2 ^ 32) c.index-taps-k.result
    (omega (arith, c.if-k-taps.true)) c.loop-k.invariant.chain c.requires.room in
    omega (arith, room, ap length (c.as_slice.ensures ∙ c.index-taps-k.is))
