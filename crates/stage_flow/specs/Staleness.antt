-- Which labels a round leaves stale: those of vertices that no tight arc leads on from, but to stale ones.
use Rattle.std.specs.Prelude.{◌≡◌, ◌≢◌, ◌<◌, ◌==◌, ◌&&◌, ◌⊎◌, ◌^◌, ◌≤ℤ◌, ◌-ℤ◌, ℕ, ℤ, pos, Bool, true, false, not, List, [], ◌∷◌, map, filter, All, Contains}
use Rattle.flow_net.specs.declared.net.Net.{Net}
use Rattle.flow_net.specs.declared.net.Flow.{Flow}
use Rattle.stage_flow.specs.Residual.{Way, ways_of, vertex_count}
use Rattle.stage_flow.specs.Rounds.{is_wanting}
use Rattle.stage_flow.specs.LawsOfWalks.{label, IsFitting, IsTight}
use Rattle.stage_flow.specs.Sending.{is_tight}
use Rattle.stage_flow.specs.Passes.{mark_at}
use Rattle.stage_flow.specs.Mending.{IsSound, AreRightOutside, AreMarked}

-- by labels from before a round, which of the unmarked vertices want after it: those with no arc to go, but for the one that was served
abbrev pub SayWhoWaits : Net → Flow → (ℕ → ℕ) → List Bool → ℕ → Type 0
SayWhoWaits net flow hops marks served = (vertex : ℕ) → vertex < vertex_count net → mark_at marks vertex ≡ false → is_wanting net flow vertex ≡ ((hops vertex == 0) && not (vertex == served))

-- a tight arc leads on from a vertex to one that isn't marked
abbrev pub LeadsAway : (ℕ → ℤ) → (ℕ → ℕ) → List Bool → ℕ → Way → Type 0
LeadsAway far hops marks vertex way = (way.tail ≡ vertex) × IsTight far hops way × (mark_at marks way.head ≡ false)

-- and none of these residual arcs does
abbrev pub NoneLeadsAway : (ℕ → ℤ) → (ℕ → ℕ) → List Bool → ℕ → List Way → Type 0
NoneLeadsAway far hops marks vertex ways = All (λ way. LeadsAway far hops marks vertex way → ⊥) ways

-- the tails of those among residual arcs that lead to a vertex and are tight
abbrev pub leads_to : (ℕ → ℤ) → (ℕ → ℕ) → ℕ → Way → Bool
leads_to far hops vertex way = (way.head == vertex) && is_tight far hops way

abbrev pub tails_of : (ℕ → ℤ) → (ℕ → ℕ) → ℕ → List Way → List ℕ
tails_of far hops vertex ways = map (λ (way : Way). way.tail) (filter (leads_to far hops vertex) ways)

-- A marked vertex is dead: its tight arcs lead to marked vertices alone.
abbrev pub AreDead : Net → Flow → (ℕ → ℤ) → (ℕ → ℕ) → List Bool → Type 0
AreDead net flow far hops marks = All (λ way. IsTight far hops way → mark_at marks way.tail ≡ true → mark_at marks way.head ≡ true) (ways_of net flow)

-- What holds while stale vertices are looked for: those that were found are marked and listed, dead, and none of them wants; and each other
-- vertex is sound or still to be looked at.
pub record AreSpread (net : Net) (flow : Flow) (far : ℕ → ℤ) (hops : ℕ → ℕ) (marks : List Bool) (vertices pending : List ℕ) : Type 0 where
  pub marked : AreMarked net marks vertices
  pub unmarked : (vertex : ℕ) → is_wanting net flow vertex ≡ true → mark_at marks vertex ≡ false
  pub low : All (λ vertex. vertex < vertex_count net) pending
  pub sound : (vertex : ℕ) → vertex < vertex_count net → mark_at marks vertex ≡ false → Contains pending vertex ⊎ IsSound net flow far hops marks vertex
  pub dead : AreDead net flow far hops marks

-- where a walk from a vertex ends
abbrev pub end_of : ℕ → List Way → ℕ
end_of from [] = from
end_of from (way ∷ walk) = end_of way.head walk

-- What labels and marks from before a round are for the flow after it, given the path of its unit: every residual arc fits, unmarked labels
-- say who waits, marked vertices are dead, and each other vertex that no arc of the path leaves, and that isn't its end, is sound.
pub record AreLeftByRound (net : Net) (flow : Flow) (far : ℕ → ℤ) (hops : ℕ → ℕ) (marks : List Bool) (from : ℕ) (path : List Way) : Type 0 where
  pub fits : All (IsFitting far hops) (ways_of net flow)
  pub waits : SayWhoWaits net flow hops marks (end_of from path)
  pub zero : (vertex : ℕ) → is_wanting net flow vertex ≡ true → (label far hops vertex ≡ record { length = pos 0; hops = 0 }) × (mark_at marks vertex ≡ false)
  pub few : (vertex : ℕ) → vertex < vertex_count net → hops vertex < vertex_count net
  pub held : (vertex : ℕ) → vertex < vertex_count net → ((pos 0 -ℤ pos (2 ^ 42)) ≤ℤ far vertex) × (far vertex ≤ℤ pos (2 ^ 42))
  pub low : All (λ way. (way.tail < vertex_count net) × (way.head < vertex_count net)) path
  pub starts : from < vertex_count net
  pub sound : (vertex : ℕ) → vertex < vertex_count net → mark_at marks vertex ≡ false → All (λ way. way.tail ≡ vertex → ⊥) path → vertex ≢ end_of from path → IsSound net flow far hops marks vertex
  pub dead : AreDead net flow far hops marks

-- the vertices that the arcs of a walk leave
abbrev pub tails_on : List Way → List ℕ
tails_on walk = map (λ (way : Way). way.tail) walk

-- no label is longer, or shorter than nothing by more, than it has arcs
abbrev pub AreNear : Net → (ℕ → ℤ) → (ℕ → ℕ) → Type 0
AreNear net far hops = (vertex : ℕ) → vertex < vertex_count net → ((pos 0 -ℤ pos (hops vertex)) ≤ℤ far vertex) × (far vertex ≤ℤ pos (hops vertex))

-- What is kept from round to round: labels that are right but at marked vertices, which are dead, and no longer than they have arcs.
pub record AreKept (net : Net) (flow : Flow) (far : ℕ → ℤ) (hops : ℕ → ℕ) (marks : List Bool) : Type 0 where
  pub right : AreRightOutside net flow far hops marks
  pub dead : AreDead net flow far hops marks
  pub near : AreNear net far hops
