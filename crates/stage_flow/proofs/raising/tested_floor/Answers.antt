use Rattle.std.proofs.Common.{◌-◌, ◌^◌, arith}
use Rattle.stage_flow.specs.Given.{at_vertex, count_at}
use Rattle.stage_flow.proofs.RaisedLabels.{none-rise}
use Rattle.stage_flow.proofs.raising.tested_floor.Goals as goal

pub returns : goal.returns
returns c =
    none-rise c.args.arcs.now c.args.flow.now (at_vertex c.args.labels.now.far) (count_at c.args.labels.now.hops) c.args.marks.now c.args.heights.now (2 ^ 32 - 1)
    (λ vertex. (let low = c.type_inv.heights vertex in omega (arith, low)))
