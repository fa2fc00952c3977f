-- What a search and a round are given: a network of gates, a part of a full flow on it, and potentials that fit.
use Rattle.std.specs.Prelude.{◌≡◌, ◌≢◌, ◌<◌, ◌/◌, ◌%◌, ◌^◌, ◌≤ℤ◌, ◌-ℤ◌, ℕ, ℤ, pos, List, [], length, slice_index_or, map, filter, All, Bool, true, false, cond, nat_lt, ◌==◌, ◌||◌}
use Rattle.gate_net.specs.declared.net.GateNet.{GateNet}
use Rattle.gate_net.specs.Net.{EachGateIsUsed}
use Rattle.flow_net.specs.declared.net.Net.{Net}
use Rattle.flow_net.specs.declared.net.Flow.{Flow}
use Rattle.flow_net.specs.Network.{network_of, HasNetwork}
use Rattle.flow_net.specs.Arcs.{Arc, arcs_of}
use Rattle.stage_flow.specs.declared.ways.Near.{Near}
use Rattle.stage_flow.specs.Residual.{vertex_count}
use Rattle.stage_flow.specs.LawsOfEpochs.{FitsFlow}

-- a network that `net_of` answers: that of well-formed gates, each of which has a use
pub record IsNetwork (net : Net) : Type 0 where
  pub gates : GateNet
  pub phases : List ℕ
  pub formed : HasNetwork gates phases
  pub used : EachGateIsUsed gates
  pub is : net ≡ network_of gates phases

-- the number of a vertex in a list of numbers, 0 past the last
abbrev pub at_vertex : List ℤ → ℕ → ℤ
at_vertex numbers vertex = slice_index_or numbers vertex (pos 0)

abbrev pub count_at : List ℕ → ℕ → ℕ
count_at counts vertex = slice_index_or counts vertex 0

-- potentials: one number per vertex, from -2^40 to 2^40, that fit each residual arc
pub record ArePotentials (net : Net) (flow : Flow) (potentials : List ℤ) : Type 0 where
  pub each : length potentials ≡ vertex_count net
  pub low : (vertex : ℕ) → (pos 0 -ℤ pos (2 ^ 40)) ≤ℤ at_vertex potentials vertex
  pub high : (vertex : ℕ) → at_vertex potentials vertex ≤ℤ pos (2 ^ 40)
  pub fits : FitsFlow net flow (at_vertex potentials)

-- an arc begins or ends at a vertex
abbrev pub touches : ℕ → Arc → Bool
touches vertex arc = (arc.tail == vertex) || (arc.head == vertex)

-- the arcs that begin or end at a vertex, in the order of their numbers
abbrev pub arcs_at : Net → ℕ → List Arc
arcs_at net vertex = filter (touches vertex) (arcs_of net)

-- ---- Rows of arcs
-- what a row has of an arc: its number, and the weight of its pin
abbrev pub number_of : Near → ℕ
number_of near = near.code / 2

abbrev pub weight_of : Near → ℕ
weight_of near = near.code % 2

-- the length of an arc by them, as forward arcs have even numbers
abbrev pub length_of : Near → ℤ
length_of near = cond (number_of near % 2 == 0) (pos (weight_of near)) (pos 0 -ℤ pos (weight_of near))

-- the arc that an entry of a vertex' row stands for: it begins at the lesser of the two vertices
abbrev pub arc_by_end : Bool → ℕ → Near → Arc
arc_by_end true vertex near = record { tail = near.other; head = vertex; length = length_of near; number = number_of near }
arc_by_end false vertex near = record { tail = vertex; head = near.other; length = length_of near; number = number_of near }

abbrev pub near_arc : ℕ → Near → Arc
near_arc vertex near = arc_by_end (nat_lt near.other vertex) vertex near

-- the row of a vertex: its entries stand for the arcs at the vertex, none of which leads back to it
pub record IsRow (net : Net) (vertex : ℕ) (nears : List Near) : Type 0 where
  pub arcs : map (near_arc vertex) nears ≡ arcs_at net vertex
  pub apart : All (λ near. near.other ≢ vertex) nears

-- a row for each vertex
pub record AreIncidences (net : Net) (rows : List (List Near)) : Type 0 where
  pub each : length rows ≡ vertex_count net
  pub at : (vertex : ℕ) → vertex < vertex_count net → IsRow net vertex (slice_index_or rows vertex [])
