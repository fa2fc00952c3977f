use Rattle.std.proofs.Common.{◌≡◌, ◌-◌, ◌∙◌, ℕ, true, false, length, sym, ap, subst, arith}
use Rattle.std.proofs.lemmas.Option.{get_or_from_slice_get}
use Rattle.net_base.specs.declared.graph.GNode.TheVariants.{Inp}
use Rattle.subject_graph.specs.Nodes.{same_node, node_at, node_place}
use Rattle.subject_graph.proofs.Links.{IsSought, sought-head, sought-next, next-below, IsSought-none, place-found}
use Rattle.subject_graph.proofs.nodes.Nodes.place.Goals as goal

pub loop-last-init : goal.loop-last-init
loop-last-init c =
    subst (λ nodes. IsSought nodes c.args.node c.index-last.result.now) c.self.view_is
    (sought-head c.self.inside.heads.items c.self.inside.links.items c.self.inside.nodes c.args.node c.bucket_of.result c.index-last.result.now c.self.invariant.0 c.bucket_of.ensures.value c.bucket_of.ensures.bucket c.index-last.ensures)

pub get-requires : goal.get-requires
get-requires c =
    let nodes : length c.self.inside.nodes ≡ length c.args.self.now = ap length c.self.view_is in
    omega (arith, c.loop-last.invariant.within)

pub returns-then-is_same : goal.returns-then-is_same
returns-then-is_same c =
    let place : ℕ = c.loop-last.last - 1 in
    let nodes : length c.self.inside.nodes ≡ length c.args.self.now = ap length c.self.view_is in
    let same : same_node c.args.node (node_at c.self.inside.nodes place) ≡ true =
    ap (same_node c.args.node) (get_or_from_slice_get c.self.inside.nodes place c.get.result.now (Inp 0) c.get.ensures) ∙ sym c.is_same.ensures ∙ c.if-is_same.true in
    place-found c.self.inside.nodes c.args.node place c.self.invariant.1 (omega (arith, c.loop-last.invariant.within)) same
    ∙ ap (node_place c.args.node) c.self.view_is

pub index-last-requires-in-loop-last : goal.index-last-requires-in-loop-last
index-last-requires-in-loop-last c =
    let nodes : length c.self.inside.nodes ≡ length c.args.self.now = ap length c.self.view_is in
    omega (arith, c.loop-last.invariant.within, c.self.invariant.0.linked)

pub loop-last-smaller : goal.loop-last-smaller
loop-last-smaller c =
    next-below c.self.inside.heads.items c.self.inside.links.items c.self.inside.nodes c.args.node (c.loop-last.last - 1) c.loop-last.last c.index-last-in-loop-last.result.now c.self.invariant.0
    (subst (λ nodes. IsSought nodes c.args.node c.loop-last.last) (sym c.self.view_is) c.loop-last.invariant)
    (omega arith) c.index-last-in-loop-last.ensures

pub loop-last-preserved : goal.loop-last-preserved
loop-last-preserved c =
    let place : ℕ = c.loop-last.last - 1 in
    let apart : same_node c.args.node (node_at c.self.inside.nodes place) ≡ false =
    ap (same_node c.args.node) (get_or_from_slice_get c.self.inside.nodes place c.get.result.now (Inp 0) c.get.ensures) ∙ sym c.is_same.ensures ∙ c.if-is_same.false in
    subst (λ nodes. IsSought nodes c.args.node c.index-last-in-loop-last.result.now) c.self.view_is
    (sought-next c.self.inside.heads.items c.self.inside.links.items c.self.inside.nodes c.args.node place c.loop-last.last c.index-last-in-loop-last.result.now c.self.invariant.0
    (subst (λ nodes. IsSought nodes c.args.node c.loop-last.last) (sym c.self.view_is) c.loop-last.invariant)
    (omega arith) apart c.index-last-in-loop-last.ensures)

pub returns : goal.returns
returns c =
    let end : c.loop-last.last ≡ 0 = omega arith in
    c.len.ensures ∙ ap length c.self.view_is
    ∙ sym (IsSought-none c.args.self.now c.args.node (subst (IsSought c.args.self.now c.args.node) end c.loop-last.invariant))
