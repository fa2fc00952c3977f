-- How a round is read off labels: residual arcs by the numbers of their arcs, tight ones, and what they reach.
use Rattle.std.specs.Prelude.{◌≡◌, ◌≢◌, ◌<◌, ◌/◌, ◌%◌, ◌^◌, ◌==◌, ◌&&◌, ◌||◌, ◌-◌, ◌-ℤ◌, ℕ, ℤ, pos, nat_eq, nat_lt, Bool, true, false, not, cond, List, [], ◌∷◌, length, map, filter, slice_index, Option, Some}
use Rattle.std.specs.List.{flat_map, IsDistinct}
use Rattle.net_base.specs.Keys.{is_among}
use Rattle.flow_net.specs.declared.net.Net.{Net}
use Rattle.flow_net.specs.declared.net.Units.{Units}
use Rattle.flow_net.specs.declared.net.Flow.{Flow}
use Rattle.flow_net.specs.Arcs.{Arc}
use Rattle.flow_net.specs.Flows.{pin_units}
use Rattle.stage_flow.specs.declared.ways.Step.{Step}
use Rattle.stage_flow.specs.declared.ways.Near.{Near}
use Rattle.stage_flow.specs.Residual.{Way, adding, taking, ways_on, ways_of, vertex_count}
use Rattle.stage_flow.specs.Given.{arcs_at, number_of, length_of, near_arc}
use Rattle.stage_flow.specs.Rounds.{is_reach, or_lesser, along}
use Rattle.stage_flow.specs.LawsOfWalks.{led_by, label, EndsAreVertices, IsInLayer}
use Rattle.stage_flow.specs.Passes.{mark_at}

-- ---- Residual arcs at a vertex
-- a residual arc of the code
abbrev pub way_of : Step → Way
way_of step = record { tail = step.tail; head = step.head; length = step.length; number = step.number; takes = step.takes }

-- the residual arc on an arc that takes a unit back, or adds one
abbrev pub residual : Bool → Arc → Way
residual true arc = taking arc
residual false arc = adding arc

-- the residual arcs on an arc at a vertex that leave the vertex, and that enter it
abbrev pub way_out : ℕ → Near → Way
way_out vertex near = residual (nat_lt near.other vertex) (near_arc vertex near)

abbrev pub way_in : ℕ → Near → Way
way_in vertex near = residual (not (nat_lt near.other vertex)) (near_arc vertex near)

-- their length, by whether they take a unit back
abbrev pub length_by : Bool → Near → ℤ
length_by takes near = cond takes (pos 0 -ℤ length_of near) (length_of near)

-- a residual arc is there: what takes a unit back needs one
abbrev pub is_residual : Flow → Way → Bool
is_residual flow way = not way.takes || not (slice_index (flat_map pin_units flow.pins) way.number == 0)

-- the residual arcs on arcs at a vertex
abbrev pub ways_by : ℕ → Flow → List Near → List Way
ways_by vertex flow nears = flat_map (ways_on flow) (map (near_arc vertex) nears)

abbrev pub ways_near : Net → Flow → ℕ → List Way
ways_near net flow vertex = flat_map (ways_on flow) (arcs_at net vertex)

-- What is read of an arc at a vertex: it leads to another one, there are units for it, and labels for both.
pub record IsRead (flow : Flow) (far : List ℤ) (hops : List ℕ) (vertex : ℕ) (near : Near) : Type 0 where
  pub apart : near.other ≢ vertex
  pub units : number_of near / 2 < length flow.pins
  pub lengths : (vertex < length far) × (near.other < length far)
  pub counts : (vertex < length hops) × (near.other < length hops)

-- What is read: a network with less than 2^32 vertices, units for each pin, and labels for each vertex.
pub record AreRead (net : Net) (flow : Flow) (far : List ℤ) (hops : List ℕ) : Type 0 where
  pub few : vertex_count net < 2 ^ 32
  pub ends : EndsAreVertices net
  pub units : length flow.pins ≡ length net.pins
  pub each_far : length far ≡ vertex_count net
  pub each_hops : length hops ≡ vertex_count net

-- ---- What tight arcs reach
-- a residual arc is tight
abbrev pub is_tight : (ℕ → ℤ) → (ℕ → ℕ) → Way → Bool
is_tight far hops way = is_reach (Some (led_by way (label far hops way.head))) (label far hops way.tail)

-- a residual arc is tight and leads on from a vertex to one that isn't marked
abbrev pub leads_on : (ℕ → ℤ) → (ℕ → ℕ) → List Bool → ℕ → Way → Bool
leads_on far hops marks vertex way = (way.tail == vertex) && (not (mark_at marks way.head) && is_tight far hops way)

-- the heads of those of residual arcs that do
abbrev pub heads_of : (ℕ → ℤ) → (ℕ → ℕ) → List Bool → ℕ → List Way → List ℕ
heads_of far hops marks vertex ways = map (λ (way : Way). way.head) (filter (leads_on far hops marks vertex) ways)

-- vertices are those that tight arcs reach from one, by any number of steps, and that aren't marked
pub record AreReached (net : Net) (flow : Flow) (far : ℕ → ℤ) (hops : ℕ → ℕ) (marks : List Bool) (from : ℕ) (reached : List ℕ) : Type 0 where
  pub found : (vertex : ℕ) → is_among nat_eq vertex reached ≡ true → (steps : ℕ) × IsInLayer far hops (ways_of net flow) from steps vertex
  pub low : (vertex : ℕ) → is_among nat_eq vertex reached ≡ true → vertex < vertex_count net
  pub fresh : (vertex : ℕ) → is_among nat_eq vertex reached ≡ true → mark_at marks vertex ≡ false
  pub all : (vertex steps : ℕ) → IsInLayer far hops (ways_of net flow) from steps vertex → mark_at marks vertex ≡ false → is_among nat_eq vertex reached ≡ true

-- marks of vertices say which of them are there, and each is there once
pub record SayWhoIsThere (marks : List Bool) (keys : List ℕ) : Type 0 where
  pub unique : IsDistinct nat_eq keys
  pub each : (vertex : ℕ) → mark_at marks vertex ≡ is_among nat_eq vertex keys

-- ---- The path, read backwards
-- a tight residual arc into a vertex that comes from one of those that were reached
abbrev pub comes_last : (ℕ → ℤ) → (ℕ → ℕ) → List ℕ → ℕ → Way → Bool
comes_last far hops reached vertex way = (way.head == vertex) && (is_tight far hops way && is_among nat_eq way.tail reached)

-- the least of the residual arcs that pass a test
abbrev pub least_by : (Way → Bool) → Option Way → List Way → Option Way
least_by test found [] = found
least_by test found (way ∷ ways) = least_by test (or_lesser (test way) way found) ways

-- ---- One unit along a path
-- the units of a pin's forward arc where the number is even, and else of its back arc
abbrev pub side : ℕ → Units → ℕ
side number units = cond (number % 2 == 0) units.forward units.back

-- Each arc of a path is there, and has room for a unit when the path comes to it.
abbrev pub HasRoom : List Way → Flow → Type 0
HasRoom [] flow = Unit {0}
HasRoom (way ∷ ways) flow = (way.number / 2 < length flow.pins) × (slice_index (flat_map pin_units flow.pins) way.number < 2 ^ 32 - 1) × HasRoom ways (along way flow)
