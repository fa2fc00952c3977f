-- The rounds: in each the lowest vertex that has still to send a unit sends one, along a longest path with the fewest arcs, to the
-- least mirror that wants a unit and that such a path reaches (successive longest paths).
use Rattle.std.specs.Prelude.{◌==◌, ◌+◌, ◌-◌, ◌&&◌, ◌||◌, ◌/◌, ◌%◌, ℕ, zero, suc, pos, nat_lt, nat_le, Bool, true, false, not, cond, int_lt, List, [], ◌∷◌, ◌++◌, length, filter, find, replicate, slice_index_or, slice_set, Option, Some, None}
use Rattle.std.specs.List.{range_with_len}
use Rattle.flow_net.specs.declared.net.Net.{Net}
use Rattle.flow_net.specs.declared.net.Units.{Units}
use Rattle.flow_net.specs.declared.net.Flow.{Flow}
use Rattle.flow_net.specs.Flows.{out_minus_in, wants}
use Rattle.stage_flow.specs.Residual.{Way, ways_of, vertex_count}
use Rattle.stage_flow.specs.Longest.{Reach, is_better, by_way, best_within}

-- the flow of no round
abbrev pub no_units : Net → Flow
no_units net = record { pins = replicate (length net.pins) (record { forward = 0; back = 0 }) }

-- ---- Who sends, and who receives
-- a vertex has still to send a unit: it sends fewer than it is to send
abbrev pub has_to_send : Net → Flow → ℕ → Bool
has_to_send net flow vertex = int_lt (pos 0) (wants net vertex) && int_lt (out_minus_in net flow vertex) (wants net vertex)

-- the sender: the lowest such vertex
abbrev pub sender : Net → Flow → Option ℕ
sender net flow = find (has_to_send net flow) (range_with_len 0 (vertex_count net))

-- a mirror still wants a unit: it has not received its own
abbrev pub is_wanting : Net → Flow → ℕ → Bool
is_wanting net flow vertex = nat_le (net.gates + 2) vertex && (nat_lt vertex (vertex_count net) && int_lt (wants net vertex) (out_minus_in net flow vertex))

-- the mirrors that want a unit, in order
abbrev pub wanting : Net → Flow → List ℕ
wanting net flow = filter (is_wanting net flow) (range_with_len 0 (vertex_count net))

-- The best of walks from a vertex to another: with fewer arcs than there are vertices.
abbrev pub best_to : Net → Flow → ℕ → ℕ → Option Reach
best_to net flow from vertex = best_within (ways_of net flow) from (vertex_count net - 1) vertex

-- a vertex with how far it is
pub record Reached : Type 0 where
  pub vertex : ℕ
  pub reach : Reach

abbrev pub or_better : Option Reached → ℕ → Option Reach → Option Reached
or_better found vertex None = found
or_better None vertex (Some reach) = Some (record { vertex = vertex; reach = reach })
or_better (Some found) vertex (Some reach) = cond (is_better reach found.reach) (Some (record { vertex = vertex; reach = reach })) (Some found)

-- the vertex of the best reach, of equal ones the first; a vertex that no walk reaches is left out
abbrev pub first_best : (ℕ → Option Reach) → Option Reached → List ℕ → Option Reached
first_best best found [] = found
first_best best found (vertex ∷ vertices) = first_best best (or_better found vertex (best vertex)) vertices

-- the receiver: the wanting mirror that is farthest from the sender, then by the fewest arcs, then the least
abbrev pub receiver : Net → Flow → ℕ → Option Reached
receiver net flow from = first_best (best_to net flow from) None (wanting net flow)

abbrev pub is_reach : Option Reach → Reach → Bool
is_reach None reach = false
is_reach (Some found) reach = not (is_better found reach) && not (is_better reach found)

-- ---- The path, read backwards
-- a residual arc into a vertex ends a longest walk with the fewest arcs: the best into its tail, and then the arc, is as good as
-- this reach
abbrev pub is_last : (ℕ → Option Reach) → Reach → ℕ → Way → Bool
is_last best reach vertex way = (way.head == vertex) && is_reach (by_way way (best way.tail)) reach

-- the lesser of two residual arcs: by the vertex that it comes from, then by number
abbrev pub is_lesser : Way → Way → Bool
is_lesser a b = nat_lt a.tail b.tail || ((a.tail == b.tail) && nat_lt a.number b.number)

abbrev pub or_lesser : Bool → Way → Option Way → Option Way
or_lesser false way found = found
or_lesser true way None = Some way
or_lesser true way (Some found) = cond (is_lesser way found) (Some way) (Some found)

-- the least of residual arcs, of those that may be last
abbrev pub least_last : (ℕ → Option Reach) → Reach → ℕ → Option Way → List Way → Option Way
least_last best reach vertex found [] = found
least_last best reach vertex found (way ∷ ways) = least_last best reach vertex (or_lesser (is_last best reach vertex way) way found) ways

abbrev pub last_of : (ℕ → Option Reach) → List Way → ℕ → Option Reach → Option Way
last_of best ways vertex None = None
last_of best ways vertex (Some reach) = least_last best reach vertex None ways

abbrev pub last_way : (ℕ → Option Reach) → List Way → ℕ → Option Way
last_way best ways vertex = last_of best ways vertex (best vertex)

-- the path of so many arcs that ends in a vertex, from its start: before a vertex comes the least one that such a walk to it can come
-- from, by the lowest arc between the two
abbrev pub path_to : (ℕ → Option Reach) → List Way → ℕ → ℕ → List Way
path_to best ways zero vertex = []
path_to best ways (suc arcs) vertex = elim (last_way best ways vertex) [ None ↦ [] | Some way ↦ path_to best ways arcs way.tail ++ way ∷ [] ]

-- ---- One unit is sent
-- a unit more or less on an arc, by its number: the even one of a pin is its forward arc, the odd one its back arc
abbrev pub moved : Bool → ℕ → ℕ
moved true units = units - 1
moved false units = units + 1

abbrev pub with_unit : Way → Units → Units
with_unit way units = cond (way.number % 2 == 0) (record units { forward = moved way.takes units.forward }) (record units { back = moved way.takes units.back })

abbrev pub along : Way → Flow → Flow
along way flow = record { pins = slice_set flow.pins (way.number / 2) (with_unit way (slice_index_or flow.pins (way.number / 2) (record { forward = 0; back = 0 }))) }

-- one unit along a path
abbrev pub sent_along : List Way → Flow → Flow
sent_along [] flow = flow
sent_along (way ∷ ways) flow = sent_along ways (along way flow)

-- ---- The rounds
-- a round: the sender sends one unit to the receiver along the path; where nobody has to send, or nobody receives, nothing is sent
abbrev pub path_from : Net → Flow → ℕ → Option Reached → List Way
path_from net flow from None = []
path_from net flow from (Some found) = path_to (best_to net flow from) (ways_of net flow) found.reach.hops found.vertex

abbrev pub path_of : Net → Flow → Option ℕ → List Way
path_of net flow None = []
path_of net flow (Some from) = path_from net flow from (receiver net flow from)

unfoldable pub after_round : Net → Flow → Flow
after_round net flow = sent_along (path_of net flow (sender net flow)) flow

-- the flow after so many rounds
abbrev pub flow_after : Net → ℕ → Flow
flow_after net zero = no_units net
flow_after net (suc rounds) = after_round net (flow_after net rounds)

-- the flow of all rounds, as many as there are drivers
abbrev pub rounds_of : Net → Flow
rounds_of net = flow_after net net.drivers
