-- The choice of a node: of all candidates the one of least cost, where the DROs that balance its leaves count as well as its
-- cells, and a leaf's own cost is shared by all that read it.
use Rattle.std.specs.Prelude.{ℕ, ◌+◌, ◌*◌, ◌/◌, ◌-◌, max, min, sum, List, [], ◌∷◌, length, map, slice_index_or, cond}
use Rattle.std.specs.declared.cmp.Ordering.{Ordering}
use Rattle.std.specs.Ordering.{nat_cmp, ordering_then, is_lt}
use Rattle.net_base.specs.declared.graph.GNode.{GNode}
use Rattle.net_base.specs.declared.graph.Subject.{Subject}
use Rattle.net_base.specs.PerItem.{per_item}
use Rattle.cell_lib.specs.declared.cell.Cell.TheVariants.{Dro}
use Rattle.cell_lib.specs.Cell.{junctions_of}
use Rattle.cut_word.specs.Word.{first_word, leaves_in}
use Rattle.cut_lists.specs.CutList.{cut_list}
use Rattle.cell_match.specs.declared.matching.Match.{Match}
use Rattle.cell_match.specs.Candidates.{candidates}
use Rattle.balance_map.specs.declared.choice.Choice.{Choice}
use Rattle.balance_map.specs.declared.choice.TheConstants.{MAX_COST}
use Rattle.balance_map.specs.FanOuts.{fan_outs}

-- ---- One candidate
-- what an input costs, and any node by itself: nothing; it is there at level 0
abbrev pub own_choice : ℕ → Choice
own_choice node = record { cost = 0; arrival = 0; leaves = first_word (node ∷ []); table = 0xAA; depth = 0 }

-- the choice of a lower node, among those made so far
abbrev pub choice_at : List Choice → ℕ → Choice
choice_at choices node = slice_index_or choices node (own_choice node)

-- the level at which the last of these leaves arrives
abbrev pub latest : List Choice → List ℕ → ℕ
latest choices [] = 0
latest choices (leaf ∷ leaves) = max (choice_at choices leaf).arrival (latest choices leaves)

-- what a leaf adds to a cost: its share of its own cost, and a DRO for each level that it waits for the last leaf
abbrev pub leaf_cost : Subject → List Choice → ℕ → ℕ → ℕ
leaf_cost subject choices last leaf =
    (choice_at choices leaf).cost / fan_outs subject leaf + junctions_of Dro * (last - (choice_at choices leaf).arrival)

-- the choice that a candidate would be, over these leaves, the last of which arrives at a level
abbrev pub choice_over : Subject → List Choice → Match → List ℕ → ℕ → Choice
choice_over subject choices candidate leaves last = record {
  cost = min MAX_COST (candidate.cost + sum (map (leaf_cost subject choices last) leaves));
  arrival = last + candidate.depth;
  leaves = candidate.leaves;
  table = candidate.table;
  depth = candidate.depth;
}

-- the choice that a candidate would be, over the leaves of its cut
unfoldable pub choice_of : Subject → List Choice → Match → Choice
choice_of subject choices candidate =
    choice_over subject choices candidate (leaves_in candidate.leaves) (latest choices (leaves_in candidate.leaves))

-- ---- The best of them
-- how two choices compare: by cost, then by arrival, then by cut, which is its first word and its table, then by depth
abbrev pub choice_cmp : Choice → Choice → Ordering
choice_cmp a b =
    ordering_then (nat_cmp a.cost b.cost)
    (ordering_then (nat_cmp a.arrival b.arrival)
    (ordering_then (nat_cmp a.leaves b.leaves)
    (ordering_then (nat_cmp a.table b.table) (nat_cmp a.depth b.depth))))

-- the lesser of two choices
abbrev pub lesser : Choice → Choice → Choice
lesser a b = cond (is_lt (choice_cmp b a)) b a

-- the least of a choice and others
abbrev pub least_of : Choice → List Choice → Choice
least_of best [] = best
least_of best (choice ∷ choices) = least_of (lesser best choice) choices

-- the choice of a node, given all that its candidates would be: the least; an input, which has none, is its own
abbrev pub best_of : ℕ → List Choice → Choice
best_of node [] = own_choice node
best_of node (choice ∷ choices) = least_of choice choices

-- ---- All nodes
-- the choice of the next node, from those of the nodes before it
unfoldable pub next_choice : Subject → List Choice → GNode → Choice
next_choice subject choices node =
    best_of (length choices) (map (choice_of subject choices) (candidates (cut_list subject.graph (length choices))))

-- the choices of all nodes, in order
abbrev pub choices_of : Subject → List Choice
choices_of subject = per_item (next_choice subject) [] subject.graph.nodes
