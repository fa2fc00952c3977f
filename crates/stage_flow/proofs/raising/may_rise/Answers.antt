use Rattle.std.proofs.Common.{◌∙◌, ap, arith}
use Rattle.stage_flow.specs.Given.{at_vertex, count_at}
use Rattle.stage_flow.specs.Sending.{ways_by}
use Rattle.stage_flow.specs.Raising.{lifted}
use Rattle.stage_flow.proofs.SendingSearch.{row-read, row-ways}
use Rattle.stage_flow.proofs.RaisedLabels.{near-fits}
use Rattle.stage_flow.proofs.raising.may_rise.Goals as goal

pub stay_fitting_from-requires-clause-read : goal.stay_fitting_from-requires-clause-read
stay_fitting_from-requires-clause-read c = row-read c.args.arcs.now c.args.flow.now c.args.labels.now.far c.args.labels.now.hops c.args.vertex c.at-nears.result.now c.requires.read c.requires.vertex c.at-nears.ensures

pub returns : goal.returns
returns c = λ yes above. (
  c.if-not-marks-vertex.false,
  (let same = c.raised.ensures ∙ ap (λ xs. lifted (count_at xs) c.args.heights.now c.args.floor c.args.vertex) c.as_slice.ensures in
      omega (arith, same, c.if-raised-marks.false, c.requires.marks)),
  near-fits c.args.arcs.now c.args.flow.now (at_vertex c.args.labels.now.far) (count_at c.args.labels.now.hops) c.args.heights.now c.args.floor c.args.vertex (ways_by c.args.vertex c.args.flow.now c.at-nears.result.now)
      (row-ways c.args.arcs.now c.args.flow.now c.args.vertex c.at-nears.result.now c.at-nears.ensures) (c.stay_fitting_from.ensures yes),
)
