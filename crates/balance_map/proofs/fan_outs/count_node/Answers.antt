use Rattle.std.proofs.Common.{◌++◌, ◌∙◌, List, [], ◌∷◌, ℕ, ap, sym, subst, arith}
use Rattle.std.proofs.lemmas.List.{append_assoc, length_push}
use Rattle.net_base.specs.declared.graph.GNode.{GNode}
use Rattle.balance_map.specs.FanOuts.{fan_ins}
use Rattle.balance_map.specs.Steps.{AreCounts}
use Rattle.balance_map.proofs.fan_outs.count_node.Goals as goal

pub count-requires-in-Both-2-clause-room : goal.count-requires-in-Both-2-clause-room
count-requires-in-Both-2-clause-room c =
    let reads : List ℕ = c.requires.room.0 in
    (reads ++ c.in-Both.a ∷ [], c.count-in-Both.ensures reads c.requires.room.1, omega (arith, length_push reads c.in-Both.a, c.requires.room.2))

pub returns-in-Both : goal.returns-in-Both
returns-in-Both c = λ reads are.
    subst (λ (all : List ℕ). AreCounts all c.count-in-Both-2.new.counts)
    (append_assoc reads (c.in-Both.a ∷ []) (c.in-Both.b ∷ []) ∙ ap (λ (node : GNode). reads ++ fan_ins node) (sym c.in-Both.is))
    (c.count-in-Both-2.ensures (reads ++ c.in-Both.a ∷ []) (c.count-in-Both.ensures reads are))
