-- Lengths by passes over all residual arcs: what the passes come to, from starts.
use Rattle.std.specs.Prelude.{◌≡◌, ◌<◌, ◌≤◌, ◌^◌, ◌+ℤ◌, ◌-ℤ◌, ◌≤ℤ◌, ℕ, ℤ, suc, pos, Bool, true, false, List, length, slice_index_or, All, Any}
use Rattle.flow_net.specs.declared.net.Net.{Net}
use Rattle.flow_net.specs.declared.net.Flow.{Flow}
use Rattle.stage_flow.specs.Residual.{Way, ways_of, vertex_count}
use Rattle.stage_flow.specs.Longest.{Reach, is_better}
use Rattle.stage_flow.specs.Rounds.{is_wanting}
use Rattle.stage_flow.specs.Given.{at_vertex, count_at}
use Rattle.stage_flow.specs.LawsOfWalks.{label}

-- whether a vertex is marked, and not past the last
abbrev pub mark_at : List Bool → ℕ → Bool
mark_at marks vertex = slice_index_or marks vertex false

-- less than the length of any label
abbrev pub least : ℤ
least = pos 0 -ℤ pos (2 ^ 63)

-- a label by its parts
abbrev pub reach_by : ℤ → ℕ → Reach
reach_by far count = record { length = far; hops = count }

-- the label that an arc offers
abbrev pub offered : (ℕ → ℤ) → (ℕ → ℕ) → Way → Reach
offered far hops way = record { length = far way.tail +ℤ way.length; hops = suc (hops way.tail) }

-- an arc offers nothing better than the label of its head
abbrev pub OffersNoBetter : (ℕ → ℤ) → (ℕ → ℕ) → Way → Type 0
OffersNoBetter far hops way = is_better (offered far hops way) (label far hops way.head) ≡ false

-- the label of a vertex comes by an arc from a vertex
abbrev pub ComesBy : (ℕ → ℤ) → (ℕ → ℕ) → ℕ → ℕ → Way → Type 0
ComesBy far hops vertices vertex way =
    (way.head ≡ vertex) × (way.tail < vertices) × (offered far hops way ≡ label far hops vertex)

-- a label that numbers can hold
pub record IsHeld (reach : Reach) : Type 0 where
  pub low : (pos 0 -ℤ pos (2 ^ 40)) ≤ℤ reach.length
  pub high : reach.length ≤ℤ pos (2 ^ 40)
  pub few : reach.hops < 2 ^ 32

-- what passes come to: starts have the label nothing, no residual arc offers a better label, and each other label comes by one
pub record IsTarget (net : Net) (flow : Flow) (starts : ℕ → Bool) (far : ℕ → ℤ) (hops : ℕ → ℕ) : Type 0 where
  pub nothing : (vertex : ℕ) → vertex < vertex_count net → starts vertex ≡ true → (far vertex ≡ pos 0) × (hops vertex ≡ 0)
  pub fits : All (OffersNoBetter far hops) (ways_of net flow)
  pub few : (vertex : ℕ) → vertex < vertex_count net → hops vertex < vertex_count net
  pub comes : (vertex : ℕ) → vertex < vertex_count net → starts vertex ≡ false → Any (ComesBy far hops (vertex_count net) vertex) (ways_of net flow)

-- marks of vertices say which of them are mirrors that want
abbrev pub SayWhoWants : Net → Flow → List Bool → Type 0
SayWhoWants net flow marks = (vertex : ℕ) → vertex < vertex_count net → mark_at marks vertex ≡ is_wanting net flow vertex

-- ---- Steps
-- the label that stands at a vertex
abbrev pub standing : List ℤ → List ℕ → ℕ → Reach
standing far hops vertex = label (at_vertex far) (count_at hops) vertex

-- no label that stands is better than a target's
abbrev pub AreUnder : (ℕ → ℤ) → (ℕ → ℕ) → List ℤ → List ℕ → Type 0
AreUnder far hops now counts = (vertex : ℕ) → vertex < length now → is_better (standing now counts vertex) (label far hops vertex) ≡ false

-- labels that stand come nearer to a target: they stay under it, and the target's own stay
pub record Nears (far : ℕ → ℤ) (hops : ℕ → ℕ) (before : List ℤ) (counts : List ℕ) (after : List ℤ) (counts' : List ℕ) : Type 0 where
  pub under : AreUnder far hops after counts'
  pub stays : (vertex : ℕ) → vertex < length after → standing before counts vertex ≡ label far hops vertex → standing after counts' vertex ≡ label far hops vertex

-- by an arc that a target's label comes by it stands afterwards, where that of the tail did before
abbrev pub Brings : (ℕ → ℤ) → (ℕ → ℕ) → List ℤ → List ℕ → List ℤ → List ℕ → Way → Type 0
Brings far hops before counts after counts' way =
    way.head < length after
    → way.tail < length after
    → IsHeld (label far hops way.head)
    → offered far hops way ≡ label far hops way.head
    → standing before counts way.tail ≡ label far hops way.tail
    → standing after counts' way.head ≡ label far hops way.head

-- what a step over an arc does, if the arc is residual
abbrev pub Stepped : (ℕ → ℤ) → (ℕ → ℕ) → List ℤ → List ℕ → List ℤ → List ℕ → Bool → Way → Type 0
Stepped far hops before counts after counts' is_residual way =
    (is_residual ≡ true → OffersNoBetter far hops way)
    → AreUnder far hops before counts
    → Nears far hops before counts after counts'
    × (is_residual ≡ true → Brings far hops before counts after counts' way)

-- what passes have come to after so many: all labels of the target with no more hops stand
pub record HaveCome (far : ℕ → ℤ) (hops : ℕ → ℕ) (passes : ℕ) (now : List ℤ) (counts : List ℕ) : Type 0 where
  pub under : AreUnder far hops now counts
  pub stand : (vertex : ℕ) → vertex < length now → hops vertex ≤ passes → standing now counts vertex ≡ label far hops vertex
