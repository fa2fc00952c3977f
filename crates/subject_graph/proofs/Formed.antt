-- Graphs as they grow: a node behind its fan-ins keeps a graph formed, and what is behind it changes no value.
use Rattle.std.proofs.Common.{◌≡◌, ◌<◌, ◌≤◌, ◌+◌, ◌++◌, ◌∙◌, ⊎_elim, ℕ, Bool, false, List, [], ◌∷◌, length, get_or, All, refl, sym, ap, subst, arith, append_assoc, length-append}
use Rattle.std.proofs.lemmas.Bool.{cases_lt}
use Rattle.std.proofs.lemmas.List.{append-nil, get_or-take, get_or_append_left, get_or_push, length_push}
use Rattle.std.proofs.lemmas.List.Elements.{All-weaker}
use Rattle.net_base.specs.declared.graph.GNode.{GNode}
use Rattle.net_base.specs.declared.graph.GNode.TheVariants.{Inp}
use Rattle.net_base.specs.declared.graph.Ref.{Ref}
use Rattle.net_base.specs.declared.graph.Ref.TheVariants.{Const, Node}
use Rattle.net_base.specs.declared.graph.Graph.{Graph}
use Rattle.net_base.specs.Graph.{IsNodeAt, AreNodes, IsProper, IsRefThere}
use Rattle.net_base.specs.NodeValues.{value_of, node_values, node_value}
use Rattle.net_base.proofs.CallerLemmas.{per_item-append, length-per_item, get_or-per_item, take-per_item-append, value_of-take}
use Rattle.subject_graph.specs.Laws.{Keeps, GraphKeepsValues}
use Rattle.blif_model.specs.declared.design.TheConstants.{MAX_INPUTS}
use Rattle.subject_graph.specs.Nodes.{node_at, input_graph}
use Rattle.subject_graph.proofs.Places.{length-inputs, input-at}

-- a proper graph but for how many nodes it has: as the definitions make it, which know no limit
pub record IsFormed (graph : Graph) : Type 0 where
  pub inputs : graph.inputs ≤ length graph.nodes
  pub nodes : AreNodes graph.inputs graph.nodes

pub IsFormed-proper : (graph : Graph) → IsProper graph → IsFormed graph
IsFormed-proper graph proper = record { inputs = proper.inputs; nodes = proper.nodes }

-- Keeping is from a graph to itself, and goes on.
pub Keeps-refl : (graph : Graph) → Keeps graph graph
Keeps-refl graph = record { inputs = refl; more = []; nodes = sym (append-nil graph.nodes) }

pub Keeps-trans : (first second third : Graph) → Keeps first second → Keeps second third → Keeps first third
Keeps-trans first second third one two = record {
  inputs = two.inputs ∙ one.inputs;
  more = one.more ++ two.more;
  nodes = two.nodes ∙ ap (λ ns. ns ++ two.more) one.nodes ∙ append_assoc first.nodes one.more two.more;
}

pub Keeps-le : (old new : Graph) → Keeps old new → length old.nodes ≤ length new.nodes
Keeps-le old new keeps = let long : length new.nodes ≡ length old.nodes + length keeps.more = ap length keeps.nodes ∙ length-append old.nodes keeps.more in omega arith

-- A signal that is there stays there.
pub there-more : (few many : ℕ) → few ≤ many → (x : Ref) → IsRefThere few x → IsRefThere many x
there-more few many more (Const value) there = tt
there-more few many more (Node k) there = omega arith

pub all-there-more : (few many : ℕ) → few ≤ many → (signals : List Ref) → All (IsRefThere few) signals → All (IsRefThere many) signals
all-there-more few many more signals there = All-weaker (IsRefThere few) (IsRefThere many) (there-more few many more) signals there

-- The values of the nodes before are the first of all values, so a signal keeps its value.
pub graph_keeps_values : GraphKeepsValues
graph_keeps_values old new row (Const value) keeps there = refl
graph_keeps_values old new row (Node k) keeps there =
    ap (λ ns. get_or (node_values row ns) k false) keeps.nodes
    ∙ sym (get_or-take (length old.nodes) (node_values row (old.nodes ++ keeps.more)) k false there)
    ∙ ap (λ values. get_or values k false) (take-per_item-append (value_of row) old.nodes keeps.more)

-- So it has the value that its fan-ins give it.
pub value-at : (graph : Graph) (row : List Bool) (k : ℕ) → IsFormed graph → k < length graph.nodes → node_value graph row k ≡ value_of row (node_values row graph.nodes) (node_at graph.nodes k)
value-at graph row k formed within =
    get_or-per_item (value_of row) graph.nodes k false (Inp 0) within
    ∙ value_of-take row (node_values row graph.nodes) graph.inputs k (node_at graph.nodes k) (formed.nodes k (Inp 0) within)

-- The value of a node that is put last.
pub value-last : (nodes : List GNode) (node : GNode) (row : List Bool) (k : ℕ) → k ≡ length nodes → get_or (node_values row (nodes ++ node ∷ [])) k false ≡ value_of row (node_values row nodes) node
value-last nodes node row k last =
    let long : length (node_values row nodes) ≡ k = omega (arith, length-per_item (value_of row) [] nodes) in
    ap (λ values. get_or values k false) (per_item-append (value_of row) [] nodes (node ∷ []))
    ∙ get_or_push (node_values row nodes) (value_of row (node_values row nodes) node) false k long

-- A node behind its fan-ins, put last, keeps a graph formed.
pub IsFormed-push : (graph : Graph) (node : GNode) → IsFormed graph → IsNodeAt graph.inputs (length graph.nodes) node → IsFormed (record graph { nodes = graph.nodes ++ node ∷ [] })
IsFormed-push graph node formed there =
    let long : length (graph.nodes ++ node ∷ []) ≡ length graph.nodes + 1 = length_push graph.nodes node in
    record {
      inputs = omega (arith, formed.inputs);
      nodes = λ place d within.
          ⊎_elim {C = IsNodeAt graph.inputs place (get_or (graph.nodes ++ node ∷ []) place d)}
          (λ before. subst (IsNodeAt graph.inputs place) (sym (get_or_append_left graph.nodes (node ∷ []) d place before)) (formed.nodes place d before))
          (λ past.
          let last : length graph.nodes ≡ place = omega arith in
          subst (IsNodeAt graph.inputs place) (sym (get_or_push graph.nodes node d place last))
          (subst (λ p. IsNodeAt graph.inputs p node) last there))
          (cases_lt place (length graph.nodes));
    }

-- The graph of inputs alone is proper, since inputs are few.
pub input-proper : (inputs : ℕ) → inputs ≤ MAX_INPUTS → IsProper (input_graph inputs)
input-proper inputs few =
    let long : length (input_graph inputs).nodes ≡ inputs = length-inputs inputs in
    record {
      inputs = omega arith;
      few = omega arith;
      nodes = λ place d within. subst (IsNodeAt inputs place) (sym (input-at inputs place d (omega arith))) (refl, omega arith);
    }
