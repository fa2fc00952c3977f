-- Labels of marked vertices that are raised: each by as much as its height, in a search from the sender, is above a floor.
use Rattle.std.specs.Prelude.{◌≡◌, ◌<◌, ◌+◌, ◌-◌, ◌⊎◌, ℕ, ℤ, Bool, true, List, length, All, Contains}
use Rattle.flow_net.specs.declared.net.Net.{Net}
use Rattle.flow_net.specs.declared.net.Flow.{Flow}
use Rattle.stage_flow.specs.Residual.{Way, ways_of, vertex_count}
use Rattle.stage_flow.specs.Given.{count_at}
use Rattle.stage_flow.specs.LawsOfWalks.{IsFitting, IsTight}
use Rattle.stage_flow.specs.Passes.{mark_at}
use Rattle.stage_flow.specs.Mending.{AreRightOutside}
use Rattle.stage_flow.specs.Staleness.{AreNear}

-- the number of arcs of a raised label
abbrev pub lifted : (ℕ → ℕ) → List ℕ → ℕ → ℕ → ℕ
lifted hops heights floor vertex = hops vertex + (count_at heights vertex - floor)

-- The heights of a search: 0 for vertices that it didn't come to. All others are listed.
pub record AreTracked (heights reached : List ℕ) : Type 0 where
  pub low : All (λ vertex. vertex < length heights) reached
  pub listed : (vertex : ℕ) → (count_at heights vertex ≡ 0) ⊎ Contains reached vertex

-- Heights are at rest, between searches: a height for each vertex, and all are 0.
pub record AreAtRest (net : Net) (heights : List ℕ) : Type 0 where
  pub each : length heights ≡ vertex_count net
  pub none : (vertex : ℕ) → count_at heights vertex ≡ 0

-- a residual arc out of a vertex that fits labels still does once they are raised
abbrev pub StaysFitting : (ℕ → ℤ) → (ℕ → ℕ) → List ℕ → ℕ → ℕ → Way → Type 0
StaysFitting far hops heights floor vertex way = way.tail ≡ vertex → IsFitting far hops way → IsFitting far (lifted hops heights floor) way

-- a vertex is raised only if it is marked, its label stays in bounds, and the residual arcs out of it still fit
abbrev pub MayRise : Net → Flow → (ℕ → ℤ) → (ℕ → ℕ) → List Bool → List ℕ → ℕ → ℕ → Type 0
MayRise net flow far hops marks heights floor vertex =
    floor < count_at heights vertex
    → (mark_at marks vertex ≡ true) × (lifted hops heights floor vertex < vertex_count net) × All (StaysFitting far hops heights floor vertex) (ways_of net flow)

-- Marked vertices are dead, but for those in a list: the tight arcs of all others lead to marked vertices alone.
abbrev pub AreDeadBut : Net → Flow → (ℕ → ℤ) → (ℕ → ℕ) → List Bool → List ℕ → Type 0
AreDeadBut net flow far hops marks vertices =
    All (λ way. IsTight far hops way → mark_at marks way.tail ≡ true → (mark_at marks way.head ≡ true) ⊎ Contains vertices way.tail) (ways_of net flow)

-- What is kept while labels are raised: as from round to round, but that those in a list may not be dead.
pub record AreKeptBut (net : Net) (flow : Flow) (far : ℕ → ℤ) (hops : ℕ → ℕ) (marks : List Bool) (vertices : List ℕ) : Type 0 where
  pub right : AreRightOutside net flow far hops marks
  pub dead : AreDeadBut net flow far hops marks vertices
  pub near : AreNear net far hops

-- no vertex is marked that wasn't before
abbrev pub NoneIsMarkedAnew : List Bool → List Bool → Type 0
NoneIsMarkedAnew before after = (vertex : ℕ) → mark_at after vertex ≡ true → mark_at before vertex ≡ true

-- a vertex is dead, if it is marked: its tight arcs lead to marked vertices alone
abbrev pub IsDead : Net → Flow → (ℕ → ℤ) → (ℕ → ℕ) → List Bool → ℕ → Type 0
IsDead net flow far hops marks vertex =
    All (λ way. IsTight far hops way → way.tail ≡ vertex → mark_at marks vertex ≡ true → mark_at marks way.head ≡ true) (ways_of net flow)
