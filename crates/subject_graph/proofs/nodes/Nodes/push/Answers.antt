use Rattle.std.proofs.Common.{◌<◌, ◌≤◌, ◌^◌, ◌++◌, ◌∙◌, [], ◌∷◌, length, sym, ap, subst}
use Rattle.subject_graph.specs.Nodes.{node_place}
use Rattle.subject_graph.proofs.Links.{push-IsNodes}
use Rattle.subject_graph.proofs.nodes.Nodes.push.Goals as goal

pub invariant_of-self-2 : goal.invariant_of-self-2
invariant_of-self-2 c =
    let inside = c.self.inside in
    push-IsNodes inside.heads.items inside.links.items inside.nodes c.args.node c.bucket_of-bucket.result c.index-link.result.now c.push_within.new.links.items c.push.new.self c.len.result c.self.invariant
    c.bucket_of-bucket.ensures.value c.bucket_of-bucket.ensures.bucket c.index-link.ensures
    (c.push_within.ensures ∙ ap (λ ls. ls ++ c.index-link.result.now ∷ []) c.in_ok-reserve.ensures.items)
    c.in_ok-push.ensures.ok c.len.ensures
    (subst (λ ns. length ns ≤ node_place c.args.node ns) (sym c.self.view_is) c.requires.new)
    (subst (λ ns. length ns < 2 ^ 31) (sym c.self.view_is) c.requires.room)
