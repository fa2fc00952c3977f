use Rattle.std.proofs.Common.{◌≡◌, ◌^◌, ◌∙◌, [], replicate, ap}
use Rattle.splitters.specs.Elements.{wire_count, empty_layout}
use Rattle.splitters.proofs.wires.Growth.{inputs-room}
use Rattle.splitters.proofs.build.lay_out.Goals as goal

pub lay_inputs-requires-clause-room : goal.lay_inputs-requires-clause-room
lay_inputs-requires-clause-room c =
    let count = c.wire_count.ensures ∙ ap wire_count c.requires.inputs in
    let empty : c.in_ok-layout.layout ≡ empty_layout c.args.chained.now =
    c.in_ok-layout.ensures ∙ (λ i. record { next = count i; elements = []; taken = replicate (c.requires.pins i) 0 }) in
    inputs-room c.args.chained.now c.args.inputs.now c.in_ok-layout.layout (2 ^ 32) c.requires.inputs empty c.requires.room
