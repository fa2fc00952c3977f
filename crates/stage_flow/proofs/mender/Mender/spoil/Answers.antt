use Rattle.std.proofs.Common.{◌≡◌, ◌++◌, ◌∙◌, ◌∷◌, [], List, Bool, map, ap, sym, subst}
use Rattle.flow_net.specs.declared.net.Net.{Net}
use Rattle.stage_flow.specs.Given.{at_vertex, count_at}
use Rattle.stage_flow.specs.Sending.{way_of}
use Rattle.stage_flow.specs.Mending.{AreMarked}
use Rattle.stage_flow.specs.Staleness.{end_of, tails_on, AreLeftByRound}
use Rattle.stage_flow.proofs.ProgressNetworks.{vertices-few, ends-among}
use Rattle.stage_flow.proofs.RoundLeft.{spread-start}
use Rattle.stage_flow.proofs.mender.Mender.spoil.Goals as goal

pub spread-requires-clause-read : goal.spread-requires-clause-read
spread-requires-clause-read c = record {
  few = vertices-few c.args.arcs.now c.requires.net;
  ends = ends-among c.args.arcs.now c.requires.net;
  units = c.requires.units;
  each_far = c.requires.each.0;
  each_hops = c.requires.each.1;
}

pub spread-requires-clause-spread : goal.spread-requires-clause-spread
spread-requires-clause-spread c =
    let net = c.args.arcs.now in
    let flow = c.args.flow.now in
    let far = at_vertex c.args.labels.now.far in
    let hops = count_at c.args.labels.now.hops in
    let path = map way_of c.args.path.now in
    let marks : c.as_mut_slice.result.now ≡ c.args.self.now.marks.items = c.as_mut_slice.ensures.value ∙ c.list.ensures.marks in
    let pending : c.push.new.self.items ≡ tails_on path ++ end_of c.args.from path ∷ [] =
    c.in_ok-push.ensures.items
    ∙ (λ i. c.in_ok-served.ensures.tails i ++ c.in_ok-served.ensures.end i ∷ [])
    ∙ ap (λ before. (before ++ tails_on path) ++ end_of c.args.from path ∷ []) c.clear.ensures.items in
    spread-start net flow far hops c.args.from path c.as_mut_slice.result.now c.list.new.self.vertices.items c.push.new.self.items
    (subst (λ (m : List Bool). AreLeftByRound net flow far hops m c.args.from path) (sym marks) c.requires.left)
    (subst (λ (m : List Bool). AreMarked net m c.list.new.self.vertices.items) (sym c.as_mut_slice.ensures.value)
    (subst (λ (n : Net). AreMarked n c.list.new.self.marks.items c.list.new.self.vertices.items) c.net.ensures c.in_ok-list.ensures.order.marked)) pending
