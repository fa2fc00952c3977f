use Rattle.std.proofs.Common.{◌≡◌, ◌∙◌, ap, subst, sym, not}
use Rattle.net_base.specs.declared.graph.Graph.{Graph}
use Rattle.net_base.specs.Graph.{IsProper}
use Rattle.net_base.specs.NodeValues.{ref_value}
use Rattle.subject_graph.specs.Steps.{negation, with_wanted}
use Rattle.subject_graph.proofs.Formed.{IsFormed-proper}
use Rattle.subject_graph.proofs.Steps.{Means, neg-means}
use Rattle.subject_graph.proofs.Makes.{value-of, there-of}
use Rattle.subject_graph.proofs.builder.Builder.neg.Goals as goal

means : (c : goal.After-signal) → Means c.args.self.now (with_wanted c.args.self.now c.negation-wanted.result) (λ row. not (ref_value c.args.self.now row c.args.x))
means c =
    let graph = c.args.self.now in
    let wanted : c.negation-wanted.result ≡ negation graph.nodes c.args.x =
    c.negation-wanted.ensures ∙ ap (λ ns. negation ns c.args.x) (c.as_slice.ensures ∙ ap (λ (g : Graph). g.nodes) c.self.view_is) in
    subst (λ w. Means graph (with_wanted graph w) (λ row. not (ref_value graph row c.args.x))) (sym wanted)
    (neg-means graph c.args.x (IsFormed-proper graph (subst IsProper c.self.view_is c.self.invariant)) c.requires.there)

pub returns-clause-value : goal.returns-clause-value
returns-clause-value c = value-of c.args.self.now c.signal.result c.signal.new.self (with_wanted c.args.self.now c.negation-wanted.result) (λ row. not (ref_value c.args.self.now row c.args.x)) (means c) c.signal.ensures.made

pub returns-clause-there : goal.returns-clause-there
returns-clause-there c = there-of c.args.self.now c.signal.result c.signal.new.self (with_wanted c.args.self.now c.negation-wanted.result) (λ row. not (ref_value c.args.self.now row c.args.x)) (means c) c.signal.ensures.made
