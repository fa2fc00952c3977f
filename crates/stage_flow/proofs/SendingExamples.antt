-- How a round is read off labels, on a network made by hand with two inputs and two gates: what tight arcs reach from the source, and
-- the way back.
use Rattle.std.proofs.Common.{◌≡◌, refl, ℕ, ℤ, pos, negsuc, false, List, [], ◌∷◌, map, Some, None}
use Rattle.flow_net.specs.declared.net.Net.{Net}
use Rattle.flow_net.specs.declared.net.Flow.{Flow}
use Rattle.flow_net.specs.Arcs.{arcs_of}
use Rattle.stage_flow.specs.Residual.{Way}
use Rattle.stage_flow.specs.Rounds.{no_units, path_of}
use Rattle.stage_flow.specs.declared.ways.Near.{Near}
use Rattle.stage_flow.specs.Given.{at_vertex, count_at, arcs_at, near_arc}
use Rattle.stage_flow.specs.Search.{arc_at, numbers_at, near_of}
use Rattle.stage_flow.specs.Sending.{ways_by, heads_of, comes_last, least_by}

abbrev net : Net
net = record {
  gates = 2;
  drivers = 4;
  pins = record { driver = 1; from = 0; to = 1; weight = 1 }
      ∷ record { driver = 0; from = 0; to = 2; weight = 1 }
      ∷ record { driver = 2; from = 1; to = 2; weight = 1 }
      ∷ record { driver = 3; from = 2; to = 3; weight = 1 } ∷ [];
}

-- a unit from the source by both gates to the sink, and back to the mirror of the last gate
abbrev one_sent : Flow
one_sent = record {
  pins = record { forward = 1; back = 0 } ∷ record { forward = 0; back = 0 } ∷ record { forward = 1; back = 0 } ∷ record { forward = 1; back = 1 } ∷ [];
}

-- how far each vertex is from the mirrors before the first round, and by how many arcs
abbrev far : ℕ → ℤ
far = at_vertex (pos 2 ∷ pos 1 ∷ pos 0 ∷ negsuc 0 ∷ pos 0 ∷ pos 0 ∷ pos 0 ∷ pos 0 ∷ [])

abbrev hops : ℕ → ℕ
hops = count_at (4 ∷ 3 ∷ 2 ∷ 1 ∷ 0 ∷ 0 ∷ 0 ∷ 0 ∷ [])

-- each arc is found by its number
arcs-by_number : map (arc_at net) (0 ∷ 1 ∷ 2 ∷ 3 ∷ 4 ∷ 5 ∷ 6 ∷ 7 ∷ []) ≡ arcs_of net
arcs-by_number = refl

-- the second gate has two arcs in, and out the two back arcs of its pins and the one to the sink
numbers-second : numbers_at net 2 ≡ 2 ∷ 3 ∷ 4 ∷ 5 ∷ 6 ∷ []
numbers-second = refl

-- its row has the other end of each, and the number doubled with the weight
abbrev row : ℕ → List Near
row vertex = map (near_of net vertex) (numbers_at net vertex)

row-second : row 2 ≡ record { other = 0; code = 5 } ∷ record { other = 4; code = 7 } ∷ record { other = 1; code = 9 } ∷ record { other = 6; code = 11 } ∷ record { other = 3; code = 13 } ∷ []
row-second = refl

-- and stands for the arcs
arcs-second : map (near_arc 2) (row 2) ≡ arcs_at net 2
arcs-second = refl

-- at the sink both arcs carry the unit, so each may give it back
ways-sink : map (λ (way : Way). way.tail) (ways_by 3 one_sent (row 3)) ≡ 2 ∷ 3 ∷ 3 ∷ 7 ∷ []
ways-sink = refl

-- tight arcs lead from the source to the first gate alone, and on to the second, the sink and its mirror
heads-source : heads_of far hops [] 0 (ways_by 0 (no_units net) (row 0)) ≡ 1 ∷ []
heads-source = refl

heads-second : heads_of far hops [] 2 (ways_by 2 (no_units net) (row 2)) ≡ 3 ∷ []
heads-second = refl

-- so to the second gate the path comes from the first
last-second : least_by (comes_last far hops (0 ∷ 1 ∷ 2 ∷ 3 ∷ 7 ∷ []) 2) None (ways_by 2 (no_units net) (row 2)) ≡ Some (record { tail = 1; head = 2; length = pos 1; number = 4; takes = false })
last-second = refl

-- The path by the definition of the rounds is the same.
path-first : map (λ (way : Way). way.number) (path_of net (no_units net) (Some 0)) ≡ 0 ∷ 4 ∷ 6 ∷ 7 ∷ []
path-first = refl
