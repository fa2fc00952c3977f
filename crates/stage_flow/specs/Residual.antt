-- The residual network of a flow: where one more unit may go. Every arc may carry one more, and each arc that carries units may
-- give one back, in the opposite direction and at the opposite length.
use Rattle.std.specs.Prelude.{◌==◌, ◌+◌, ◌-ℤ◌, ℕ, ℤ, pos, Bool, true, false, cond, List, [], ◌∷◌}
use Rattle.std.specs.List.{flat_map}
use Rattle.flow_net.specs.declared.net.Net.{Net}
use Rattle.flow_net.specs.declared.net.Flow.{Flow}
use Rattle.flow_net.specs.Arcs.{Arc, arcs_of}
use Rattle.flow_net.specs.Flows.{units_on}

-- a residual arc, with the number of the arc whose units it changes: it adds a unit, or takes one back
pub record Way : Type 0 where
  pub tail : ℕ
  pub head : ℕ
  pub length : ℤ
  pub number : ℕ
  pub takes : Bool

-- an arc that may carry a unit more
abbrev pub adding : Arc → Way
adding arc = record { tail = arc.tail; head = arc.head; length = arc.length; number = arc.number; takes = false }

-- the reverse of an arc, which takes a unit back
abbrev pub taking : Arc → Way
taking arc = record { tail = arc.head; head = arc.tail; length = pos 0 -ℤ arc.length; number = arc.number; takes = true }

-- an arc, and its reverse if it carries units
abbrev pub ways_on : Flow → Arc → List Way
ways_on flow arc = adding arc ∷ cond (units_on flow arc == 0) [] (taking arc ∷ [])

-- the residual arcs, in the order of their numbers
abbrev pub ways_of : Net → Flow → List Way
ways_of net flow = flat_map (ways_on flow) (arcs_of net)

-- the vertices: the source, the gates, the sink, and a mirror for each driver
abbrev pub vertex_count : Net → ℕ
vertex_count net = net.gates + 2 + net.drivers
