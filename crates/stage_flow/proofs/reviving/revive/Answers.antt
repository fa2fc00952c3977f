use Rattle.std.proofs.Common.{◌≡◌, ◌<◌, ◌∙◌, ◌++◌, false, length, set, All, ap, sym, subst, arith}
use Rattle.std.proofs.lemmas.List.{length-set}
use Rattle.stage_flow.specs.Residual.{vertex_count}
use Rattle.stage_flow.specs.Given.{at_vertex, count_at}
use Rattle.stage_flow.specs.Staleness.{tails_of}
use Rattle.stage_flow.specs.Raising.{AreDeadBut}
use Rattle.stage_flow.proofs.HalfwaySteps.{stale_count-cleared, marked-before}
use Rattle.stage_flow.proofs.SendingSearch.{row-read, row-ways}
use Rattle.stage_flow.proofs.RevivedVertices.{revived-right, revived-dead, revived-low}
use Rattle.stage_flow.proofs.reviving.revive.Goals as goal

pub push_tails-requires : goal.push_tails-requires
push_tails-requires c = record { read = row-read c.args.arcs.now c.args.flow.now c.args.labels.now.far c.args.labels.now.hops c.in-Some.vertex c.at.result.now c.requires.read c.in-Some.ensures.found.0 c.at.ensures }

pub loop-vertex-smaller : goal.loop-vertex-smaller
loop-vertex-smaller c =
    let fewer = stale_count-cleared c.loop-vertex.marks c.in-Some.vertex c.in-Some.ensures.found.1 in
    omega (arith, fewer)

pub loop-vertex-preserved : goal.loop-vertex-preserved
loop-vertex-preserved c =
    let net = c.args.arcs.now in
    let flow = c.args.flow.now in
    let far = at_vertex c.args.labels.now.far in
    let hops = count_at c.args.labels.now.hops in
    let found = c.in-Some.vertex in
    let marks = c.loop-vertex.marks in
    let after = c.next_revived.new.pending.items in
    let low = c.in-Some.ensures.found.0 in
    let each : length marks ≡ length c.args.marks.now = c.loop-vertex.invariant.each in
    let inside : found < length marks = omega (arith, low, each, c.requires.marks) in
    let tails = c.in_ok-push_tails.ensures
    ∙ ap (λ ways. after ++ tails_of far hops found ways) (row-ways c.args.arcs.now c.args.flow.now found c.at.result.now c.at.ensures) in
    record {
      each = length-set marks found false ∙ each;
      right = revived-right net flow far hops marks found inside c.in-Some.ensures.found.2 c.loop-vertex.invariant.right;
      dead = subst (AreDeadBut net flow far hops (set marks found false)) (sym tails) (revived-dead net flow far hops marks found inside after c.in-Some.ensures.others);
      low = subst (All (λ one. one < vertex_count net)) (sym tails) (revived-low net flow far hops marks found inside after c.requires.read.ends c.in-Some.ensures.low);
      fewer = λ one marked. c.loop-vertex.invariant.fewer one (marked-before marks found one marked);
    }

pub returns-in_err-push_tails-clause-fewer : goal.returns-in_err-push_tails-clause-fewer
returns-in_err-push_tails-clause-fewer c = λ one marked. c.loop-vertex.invariant.fewer one (marked-before c.loop-vertex.marks c.in-Some.vertex one marked)
