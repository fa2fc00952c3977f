-- How a graph grows: the complement of a signal, the conjunction and the disjunction of two, and many folded to one by halves.
use Rattle.std.specs.Prelude.{◌==◌, ◌||◌, ◌+◌, ◌/◌, ℕ, zero, suc, Bool, true, false, not, min, max, List, [], ◌∷◌, length, take, drop, if◌then◌else◌}
use Rattle.net_base.specs.declared.graph.GNode.{GNode}
use Rattle.net_base.specs.declared.graph.GNode.TheVariants.{Neg, Both}
use Rattle.net_base.specs.declared.graph.Ref.{Ref}
use Rattle.net_base.specs.declared.graph.Ref.TheVariants.{Const, Node}
use Rattle.net_base.specs.declared.graph.Graph.{Graph}
use Rattle.net_base.specs.Graph.{IsRefThere, IsNodeAt}
use Rattle.subject_graph.specs.declared.wanted.Wanted.{Wanted}
use Rattle.subject_graph.specs.declared.wanted.Wanted.TheVariants.{Ready, Needed}
use Rattle.subject_graph.specs.declared.folds.Folding.{Folding}
use Rattle.subject_graph.specs.declared.folds.Folding.TheVariants.{All, Any}
use Rattle.subject_graph.specs.Nodes.{same_node, node_at, node_place, with_node}

-- a graph, and what was made in it
pub record Made (A : Type 0) : Type 0 where
  pub graph : Graph
  pub answer : A

-- the complement of a node that is this one: what it is the complement of, or else a node of its own
abbrev pub complement_of : ℕ → GNode → Wanted
complement_of x (Neg y) = Ready (Node y)
complement_of x node = Needed (Neg x)

-- what the complement of a signal is
abbrev pub negation : List GNode → Ref → Wanted
negation nodes (Const value) = Ready (Const (not value))
negation nodes (Node x) = complement_of x (node_at nodes x)

-- the first of two nodes is the complement of the second
abbrev pub is_complement : List GNode → ℕ → ℕ → Bool
is_complement nodes x y = same_node (node_at nodes x) (Neg y)

-- the conjunction of two nodes: the one where they are one, false where one is the complement of the other, and else a node
abbrev pub both_of : List GNode → ℕ → ℕ → Wanted
both_of nodes x y =
    if x == y then Ready (Node x)
    else if is_complement nodes x y || is_complement nodes y x then Ready (Const false)
    else Needed (Both (min x y) (max x y))

-- the conjunction of a constant and a signal: the signal, or false
abbrev pub only_if : Bool → Ref → Wanted
only_if true x = Ready x
only_if false x = Ready (Const false)

-- what the conjunction of two signals is
abbrev pub conjunction : List GNode → Ref → Ref → Wanted
conjunction nodes (Const value) y = only_if value y
conjunction nodes (Node x) (Const value) = only_if value (Node x)
conjunction nodes (Node x) (Node y) = both_of nodes x y

-- the signal that is wanted is there, or the node may stand behind those that are there
abbrev pub IsWantedThere : Graph → Wanted → Type 0
IsWantedThere graph (Ready x) = IsRefThere (length graph.nodes) x
IsWantedThere graph (Needed node) = IsNodeAt graph.inputs (length graph.nodes) node

-- the graph with what is wanted, and the signal that it is
abbrev pub with_wanted : Graph → Wanted → Made Ref
with_wanted graph (Ready x) = record { graph = graph; answer = x }
with_wanted graph (Needed node) = record { graph = record graph { nodes = with_node node graph.nodes }; answer = Node (node_place node graph.nodes) }

-- the complement of a signal
abbrev pub with_neg : Graph → Ref → Made Ref
with_neg graph x = with_wanted graph (negation graph.nodes x)

-- the conjunction of two
abbrev pub with_and : Graph → Ref → Ref → Made Ref
with_and graph x y = with_wanted graph (conjunction graph.nodes x y)

-- the disjunction of two: the complements of both, first the first one's, their conjunction, and its complement
abbrev pub with_or : Graph → Ref → Ref → Made Ref
with_or graph x y =
    let first = with_neg graph x in
    let second = with_neg first.graph y in
    let neither = with_and second.graph first.answer second.answer in
    with_neg neither.graph neither.answer

-- what a fold of no signals is
abbrev pub unit_of : Folding → Ref
unit_of All = Const true
unit_of Any = Const false

-- what a fold makes of two
abbrev pub with_two : Folding → Graph → Ref → Ref → Made Ref
with_two All graph x y = with_and graph x y
with_two Any graph x y = with_or graph x y

-- the first half of some signals, and one more than half where they are odd
abbrev pub first_half : ℕ → ℕ
first_half signals = (signals + 1) / 2

-- Signals folded by halves: none are the unit, one is itself, and of more the first half is folded, then the rest, and then
-- the two are made one. The first number bounds the depth.
abbrev pub folded_within : ℕ → Folding → Graph → List Ref → Made Ref
folded_within zero kind graph signals = record { graph = graph; answer = unit_of kind }
folded_within (suc depth) kind graph [] = record { graph = graph; answer = unit_of kind }
folded_within (suc depth) kind graph (x ∷ []) = record { graph = graph; answer = x }
folded_within (suc depth) kind graph (x ∷ (y ∷ more)) =
    let half = first_half (length (x ∷ (y ∷ more))) in
    let first = folded_within depth kind graph (take half (x ∷ (y ∷ more))) in
    let rest = folded_within depth kind first.graph (drop half (x ∷ (y ∷ more))) in
    with_two kind rest.graph first.answer rest.answer

-- the fold of signals; it is no deeper than they are many
abbrev pub folded : Folding → Graph → List Ref → Made Ref
folded kind graph signals = folded_within (length signals) kind graph signals
