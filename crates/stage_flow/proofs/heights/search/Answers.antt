use Rattle.std.proofs.Common.{◌<◌, arith}
use Rattle.stage_flow.specs.Residual.{vertex_count}
use Rattle.stage_flow.proofs.SendingSearch.{row-read}
use Rattle.stage_flow.proofs.heights.search.Goals as goal

pub come_from-requires-clause-read : goal.come_from-requires-clause-read
come_from-requires-clause-read c =
    let vertex = c.in-Some.vertex in
    let there = c.stands_at.ensures c.if-stands_at.true in
    let low : vertex < vertex_count c.args.arcs.now = omega (arith, there, c.as_slice.ensures.len, c.loop.invariant.each, c.requires.rest.each) in
    row-read c.args.arcs.now c.args.flow.now c.args.labels.now.far c.args.labels.now.hops vertex c.at.result.now c.requires.read low c.at.ensures
