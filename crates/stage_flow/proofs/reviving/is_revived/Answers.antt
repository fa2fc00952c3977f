use Rattle.stage_flow.specs.Given.{at_vertex, count_at}
use Rattle.stage_flow.specs.Sending.{ways_by}
use Rattle.stage_flow.proofs.SendingSearch.{row-read, row-ways}
use Rattle.stage_flow.proofs.StaleVertices.{near-sound, near-none}
use Rattle.stage_flow.proofs.RevivedVertices.{dead-one}
use Rattle.stage_flow.proofs.reviving.is_revived.Goals as goal

pub leads_away_from-requires : goal.leads_away_from-requires
leads_away_from-requires c = record { read = row-read c.args.arcs.now c.args.flow.now c.args.labels.now.far c.args.labels.now.hops c.args.vertex c.at.result.now c.requires.read c.requires.vertex c.at.ensures }

pub returns-clause-sound : goal.returns-clause-sound
returns-clause-sound c = λ yes.
    near-sound c.args.arcs.now c.args.flow.now (at_vertex c.args.labels.now.far) (count_at c.args.labels.now.hops) c.args.marks.now c.args.vertex (ways_by c.args.vertex c.args.flow.now c.at.result.now)
    (row-ways c.args.arcs.now c.args.flow.now c.args.vertex c.at.result.now c.at.ensures) (c.leads_away_from.ensures.away yes)

pub returns-clause-dead : goal.returns-clause-dead
returns-clause-dead c = λ no.
    dead-one c.args.arcs.now c.args.flow.now (at_vertex c.args.labels.now.far) (count_at c.args.labels.now.hops) c.args.marks.now c.args.vertex
    (near-none c.args.arcs.now c.args.flow.now (at_vertex c.args.labels.now.far) (count_at c.args.labels.now.hops) c.args.marks.now c.args.vertex (ways_by c.args.vertex c.args.flow.now c.at.result.now)
    (row-ways c.args.arcs.now c.args.flow.now c.args.vertex c.at.result.now c.at.ensures) (c.leads_away_from.ensures.none no))
