-- Walks in a residual network: the laws on the best of them, and, given labels, the laws on a round.
use Rattle.std.specs.Prelude.{◌≡◌, ◌-◌, ◌<◌, ◌≤◌, ◌+◌, ◌==◌, ◌+ℤ◌, ◌-ℤ◌, ◌≤ℤ◌, ℕ, ℤ, suc, pos, true, false, cond, List, [], ◌∷◌, length, All, Any, Contains, Some}
use Rattle.flow_net.specs.declared.net.Net.{Net}
use Rattle.flow_net.specs.declared.net.Flow.{Flow}
use Rattle.flow_net.specs.Arcs.{Arc, arcs_of}
use Rattle.flow_net.specs.Flows.{units_on, out_minus_in}
use Rattle.stage_flow.specs.Residual.{Way, ways_of, vertex_count}
use Rattle.stage_flow.specs.Longest.{Reach, is_better, best_within}
use Rattle.stage_flow.specs.Rounds.{sender, is_wanting, receiver, best_to, is_lesser, last_way, path_of, after_round, moved}

-- a walk from a vertex to a vertex: residual arcs, each of which begins where the one before ends
abbrev pub IsWalk : List Way → ℕ → ℕ → List Way → Type 0
IsWalk ways from to [] = from ≡ to
IsWalk ways from to (way ∷ walk) = Contains ways way × (way.tail ≡ from) × IsWalk ways way.head to walk

-- an arc, and then on
abbrev pub led_by : Way → Reach → Reach
led_by way reach = record { length = way.length +ℤ reach.length; hops = reach.hops + 1 }

-- how far a walk goes: the lengths of its arcs added up, and how many they are
abbrev pub reach_of : List Way → Reach
reach_of [] = record { length = pos 0; hops = 0 }
reach_of (way ∷ walk) = led_by way (reach_of walk)

-- The best is attained: a walk of at most so many arcs goes just so far.
abbrev pub TheBestIsAttained : Type 0
TheBestIsAttained =
    (ways : List Way) (from arcs vertex : ℕ) (reach : Reach) → best_within ways from arcs vertex ≡ Some reach
    → (walk : List Way) × IsWalk ways from vertex walk × (length walk ≤ arcs) × (reach_of walk ≡ reach)

-- No walk of at most so many arcs goes better than the best. So where there is no best, there is no walk.
abbrev pub NoWalkIsBetter : Type 0
NoWalkIsBetter =
    (ways : List Way) (from arcs vertex : ℕ) (walk : List Way) → IsWalk ways from vertex walk → length walk ≤ arcs
    → (best : Reach) × (best_within ways from arcs vertex ≡ Some best) × (is_better (reach_of walk) best ≡ false)

-- ---- Labels: how far each vertex is from the mirrors that want
-- a vertex's label: the greatest length of a walk from it to a wanting mirror, and the fewest arcs of a walk of that length
abbrev pub label : (ℕ → ℤ) → (ℕ → ℕ) → ℕ → Reach
label far hops vertex = record { length = far vertex; hops = hops vertex }

-- a residual arc fits labels where going by it is no better than its tail's label, and is tight where it is as good
abbrev pub IsFitting : (ℕ → ℤ) → (ℕ → ℕ) → Way → Type 0
IsFitting far hops way = is_better (led_by way (label far hops way.head)) (label far hops way.tail) ≡ false

abbrev pub IsTight : (ℕ → ℤ) → (ℕ → ℕ) → Way → Type 0
IsTight far hops way = led_by way (label far hops way.head) ≡ label far hops way.tail

-- Labels: each residual arc fits, a wanting mirror's label is nothing, and out of each other vertex there is a tight arc. This
-- determines the labels: a walk of tight arcs comes nearer with each arc, so it ends, and only at a wanting mirror.
pub record AreLabels (net : Net) (flow : Flow) (far : ℕ → ℤ) (hops : ℕ → ℕ) : Type 0 where
  pub fits : All (IsFitting far hops) (ways_of net flow)
  pub nothing : (vertex : ℕ) → is_wanting net flow vertex ≡ true → label far hops vertex ≡ record { length = pos 0; hops = 0 }
  pub onward : (vertex : ℕ) → vertex < vertex_count net → is_wanting net flow vertex ≡ false → Any (λ way. (way.tail ≡ vertex) × IsTight far hops way) (ways_of net flow)

-- a walk of tight arcs
pub record IsTightWalk (far : ℕ → ℤ) (hops : ℕ → ℕ) (ways : List Way) (from to : ℕ) (walk : List Way) : Type 0 where
  pub goes : IsWalk ways from to walk
  pub tight : All (IsTight far hops) walk

-- the vertices that tight arcs reach from a vertex by so many steps
pub record IsInLayer (far : ℕ → ℤ) (hops : ℕ → ℕ) (ways : List Way) (from steps vertex : ℕ) : Type 0 where
  pub walk : List Way
  pub tight : IsTightWalk far hops ways from vertex walk
  pub long : length walk ≡ steps

-- a tight walk from a vertex to a mirror that wants
pub record Serves (net : Net) (flow : Flow) (far : ℕ → ℤ) (hops : ℕ → ℕ) (from : ℕ) : Type 0 where
  pub mirror : ℕ
  pub wants : is_wanting net flow mirror ≡ true
  pub walk : List Way
  pub tight : IsTightWalk far hops (ways_of net flow) from mirror walk

-- What a round asks of labels: each residual arc fits, a wanting mirror's label is nothing, and tight arcs lead from the sender to a
-- mirror that wants. Labels give it for each sender, and so does a search from one sender (`labels-from_depths`).
pub record AreLabelsFor (net : Net) (flow : Flow) (far : ℕ → ℤ) (hops : ℕ → ℕ) (from : ℕ) : Type 0 where
  pub fits : All (IsFitting far hops) (ways_of net flow)
  pub nothing : (vertex : ℕ) → is_wanting net flow vertex ≡ true → label far hops vertex ≡ record { length = pos 0; hops = 0 }
  pub served : Serves net flow far hops from

-- ---- The receiver and the path of a round, read off tight arcs
-- each arc's ends are among the vertices
abbrev pub EndsAreVertices : Net → Type 0
EndsAreVertices net = All (λ arc. (arc.tail < vertex_count net) × (arc.head < vertex_count net)) (arcs_of net)

-- A label is the best of the walks from its vertex to wanting mirrors: none is better, and one with fewer arcs than there are vertices
-- is as good.
pub record IsBestLabel (net : Net) (flow : Flow) (label : Reach) (vertex : ℕ) : Type 0 where
  pub none_better : (mirror : ℕ) (walk : List Way) → is_wanting net flow mirror ≡ true → IsWalk (ways_of net flow) vertex mirror walk → is_better (reach_of walk) label ≡ false
  pub mirror : ℕ
  pub wants : is_wanting net flow mirror ≡ true
  pub walk : List Way
  pub goes : IsWalk (ways_of net flow) vertex mirror walk
  pub few : length walk < vertex_count net
  pub as_good : reach_of walk ≡ label

abbrev pub LabelsAreBest : Type 0
LabelsAreBest =
    (net : Net) (flow : Flow) (far : ℕ → ℤ) (hops : ℕ → ℕ) → EndsAreVertices net → AreLabels net flow far hops → (vertex : ℕ) → vertex < vertex_count net
    → IsBestLabel net flow (label far hops vertex) vertex

-- There is one labelling.
abbrev pub LabelsAreDetermined : Type 0
LabelsAreDetermined =
    (net : Net) (flow : Flow) (far far' : ℕ → ℤ) (hops hops' : ℕ → ℕ) → EndsAreVertices net → AreLabels net flow far hops → AreLabels net flow far' hops'
    → (vertex : ℕ) → vertex < vertex_count net → label far hops vertex ≡ label far' hops' vertex

-- The best walk to a vertex of a layer has as many arcs as there are steps, and is as long as the labels differ.
abbrev pub TheBestToALayer : Type 0
TheBestToALayer =
    (net : Net) (flow : Flow) (far : ℕ → ℤ) (hops : ℕ → ℕ) (from steps vertex : ℕ) → AreLabelsFor net flow far hops from → EndsAreVertices net → vertex < vertex_count net
    → IsInLayer far hops (ways_of net flow) from steps vertex
    → best_to net flow from vertex ≡ Some (record { length = far from -ℤ far vertex; hops = steps })

-- the least of the mirrors that want and that tight arcs reach by as many steps as the sender's label has
pub record IsLeastServed (net : Net) (flow : Flow) (far : ℕ → ℤ) (hops : ℕ → ℕ) (from mirror : ℕ) : Type 0 where
  pub wants : is_wanting net flow mirror ≡ true
  pub layer : IsInLayer far hops (ways_of net flow) from (hops from) mirror
  pub least : (other : ℕ) → is_wanting net flow other ≡ true → IsInLayer far hops (ways_of net flow) from (hops from) other → mirror ≤ other

-- The receiver is that mirror, and there is one.
abbrev pub TheReceiverIsLeast : Type 0
TheReceiverIsLeast =
    (net : Net) (flow : Flow) (far : ℕ → ℤ) (hops : ℕ → ℕ) (from : ℕ) → AreLabelsFor net flow far hops from → EndsAreVertices net
    → (mirror : ℕ) × (receiver net flow from ≡ Some (record { vertex = mirror; reach = label far hops from })) × IsLeastServed net flow far hops from mirror

-- the least of the tight arcs to a vertex from a layer
pub record IsLeastLast (far : ℕ → ℤ) (hops : ℕ → ℕ) (ways : List Way) (from steps vertex : ℕ) (way : Way) : Type 0 where
  pub there : Contains ways way
  pub ends : way.head ≡ vertex
  pub tight : IsTight far hops way
  pub before : IsInLayer far hops ways from steps way.tail
  pub least : (other : Way) → Contains ways other → other.head ≡ vertex → IsTight far hops other → IsInLayer far hops ways from steps other.tail → is_lesser other way ≡ false

-- The path comes to a vertex of a layer by the least tight arc from the layer before.
abbrev pub TheLastWayIsLeast : Type 0
TheLastWayIsLeast =
    (net : Net) (flow : Flow) (far : ℕ → ℤ) (hops : ℕ → ℕ) (from steps vertex : ℕ) → AreLabelsFor net flow far hops from → EndsAreVertices net → vertex < vertex_count net
    → IsInLayer far hops (ways_of net flow) from (suc steps) vertex
    → (way : Way) × (last_way (best_to net flow from) (ways_of net flow) vertex ≡ Some way) × IsLeastLast far hops (ways_of net flow) from steps vertex way

-- ---- One unit along the path
-- a flow has units for each pin
pub record HasUnits (net : Net) (flow : Flow) : Type 0 where
  pub each : length flow.pins ≡ length net.pins

-- one unit at a vertex
abbrev pub unit_at : ℕ → ℕ → ℤ
unit_at place vertex = cond (place == vertex) (pos 1) (pos 0)

-- a potential fits a residual arc where it rises on it by the arc's length or more
abbrev pub FitsWay : (ℕ → ℤ) → Way → Type 0
FitsWay p way = (p way.tail +ℤ way.length) ≤ℤ p way.head

-- the potentials that labels are: how far a vertex is, negated
abbrev pub potential_by : (ℕ → ℤ) → ℕ → ℤ
potential_by far vertex = pos 0 -ℤ far vertex

-- What a round does, given labels: the unit goes along a walk of tight arcs from the sender to the receiver. Each arc of the walk
-- gains a unit, or its reverse loses one. What leaves a vertex less what enters it changes at the two ends alone. The potentials
-- and the labels from before fit the flow that comes of it.
pub record IsRound (net : Net) (flow : Flow) (far : ℕ → ℤ) (hops : ℕ → ℕ) (from mirror : ℕ) : Type 0 where
  pub receives : IsLeastServed net flow far hops from mirror
  pub path : IsTightWalk far hops (ways_of net flow) from mirror (path_of net flow (Some from))
  pub units : All (λ way. (arc : Arc) → Contains (arcs_of net) arc → arc.number ≡ way.number → units_on (after_round net flow) arc ≡ moved way.takes (units_on flow arc)) (path_of net flow (Some from))
  pub others : (arc : Arc) → Contains (arcs_of net) arc → All (λ way. way.number ≡ arc.number → ⊥) (path_of net flow (Some from)) → units_on (after_round net flow) arc ≡ units_on flow arc
  pub ends : (vertex : ℕ) → out_minus_in net (after_round net flow) vertex ≡ (out_minus_in net flow vertex +ℤ unit_at from vertex) -ℤ unit_at mirror vertex
  pub fits : All (FitsWay (potential_by far)) (ways_of net (after_round net flow))
  pub labels : All (IsFitting far hops) (ways_of net (after_round net flow))
  pub each : HasUnits net (after_round net flow)

abbrev pub RoundsGoByLabels : Type 0
RoundsGoByLabels =
    (net : Net) (flow : Flow) (far : ℕ → ℤ) (hops : ℕ → ℕ) (from : ℕ) → EndsAreVertices net → HasUnits net flow → AreLabelsFor net flow far hops from → sender net flow ≡ Some from
    → (mirror : ℕ) × IsRound net flow far hops from mirror

-- ---- Labels for one sender, by a search
-- a potential is level with a residual arc where it rises on it by just the arc's length
abbrev pub IsLevel : (ℕ → ℤ) → Way → Type 0
IsLevel p way = p way.tail +ℤ way.length ≡ p way.head

-- What a search breadth first from a sender over level arcs finds: the depth of each vertex, as deep as the first layer that has a
-- mirror that wants, and a walk to one there that goes a layer down with each arc. A vertex that isn't met counts as that deep.
pub record AreDepths (net : Net) (flow : Flow) (far : ℕ → ℤ) (depth : ℕ → ℕ) (from last mirror : ℕ) : Type 0 where
  pub fits : All (FitsWay (potential_by far)) (ways_of net flow)
  pub nothing : (vertex : ℕ) → is_wanting net flow vertex ≡ true → far vertex ≡ pos 0
  pub first : (vertex : ℕ) → is_wanting net flow vertex ≡ true → last ≤ depth vertex
  pub next : All (λ way. IsLevel (potential_by far) way → depth way.tail < last → depth way.head ≤ depth way.tail + 1) (ways_of net flow)
  pub wants : is_wanting net flow mirror ≡ true
  pub walk : List Way
  pub goes : IsWalk (ways_of net flow) from mirror walk
  pub down : All (λ way. IsLevel (potential_by far) way × (depth way.head ≡ depth way.tail + 1)) walk
  pub ends : depth mirror ≡ last

-- They are labels for the sender, with what is left to the last depth as the number of arcs.
abbrev pub SearchesGiveLabels : Type 0
SearchesGiveLabels =
    (net : Net) (flow : Flow) (far : ℕ → ℤ) (depth : ℕ → ℕ) (from last mirror : ℕ) → AreDepths net flow far depth from last mirror
    → AreLabelsFor net flow far (λ vertex. last - depth vertex) from
