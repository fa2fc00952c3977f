-- Labels that are right but at some vertices, the stale ones, and how those are put right.
use Rattle.std.specs.Prelude.{◌≡◌, ◌≢◌, ◌<◌, ◌/◌, ◌⊎◌, ◌+◌, ◌&&◌, ◌≤ℤ◌, ◌^◌, ◌+ℤ◌, ◌-ℤ◌, ◌*ℤ◌, ℕ, ℤ, pos, Bool, true, false, not, List, ◌∷◌, ◌++◌, length, map, filter, drop, All, Any, Contains, IsPermutation}
use Rattle.std.specs.declared.cmp.Ordering.{Ordering}
use Rattle.std.specs.Ordering.{int_cmp, nat_cmp, ordering_then}
use Rattle.flow_net.specs.declared.net.Net.{Net}
use Rattle.flow_net.specs.declared.net.Flow.{Flow}
use Rattle.stage_flow.specs.declared.offers.Offer.{Offer}
use Rattle.stage_flow.specs.Residual.{Way, ways_of, vertex_count}
use Rattle.stage_flow.specs.Longest.{Reach}
use Rattle.stage_flow.specs.Rounds.{is_wanting}
use Rattle.stage_flow.specs.declared.ways.Near.{Near}
use Rattle.stage_flow.specs.Given.{at_vertex, count_at, number_of}
use Rattle.stage_flow.specs.LawsOfWalks.{led_by, label, IsFitting, IsTight}
use Rattle.stage_flow.specs.Passes.{mark_at}
use Rattle.stage_flow.specs.Sending.{way_out, way_in}

-- A label as one number, which is less the better the label is: its length negated, weighed so that no number of arcs outweighs it, and
-- its arcs. By an arc it grows by the same for every label.
abbrev pub cost : Reach → ℤ
cost reach = pos reach.hops -ℤ reach.length *ℤ pos (2 ^ 32)

-- a vertex is sound: it wants a unit, or a tight arc leads from it to a vertex that isn't stale
abbrev pub IsSound : Net → Flow → (ℕ → ℤ) → (ℕ → ℕ) → List Bool → ℕ → Type 0
IsSound net flow far hops stale vertex =
    (is_wanting net flow vertex ≡ true)
    ⊎ Any (λ way. (way.tail ≡ vertex) × IsTight far hops way × (mark_at stale way.head ≡ false)) (ways_of net flow)

-- Labels that are right outside the stale vertices: every residual arc fits, a mirror that wants isn't stale and has the label nothing, and
-- each vertex that isn't stale is sound. So a label that isn't stale is the farthest, and a stale one is no worse than it should be.
pub record AreRightOutside (net : Net) (flow : Flow) (far : ℕ → ℤ) (hops : ℕ → ℕ) (stale : List Bool) : Type 0 where
  pub fits : All (IsFitting far hops) (ways_of net flow)
  pub nothing : (vertex : ℕ) → is_wanting net flow vertex ≡ true → (label far hops vertex ≡ record { length = pos 0; hops = 0 }) × (mark_at stale vertex ≡ false)
  pub few : (vertex : ℕ) → vertex < vertex_count net → hops vertex < vertex_count net
  pub held : (vertex : ℕ) → vertex < vertex_count net → ((pos 0 -ℤ pos (2 ^ 42)) ≤ℤ far vertex) × (far vertex ≤ℤ pos (2 ^ 42))
  pub sound : (vertex : ℕ) → vertex < vertex_count net → mark_at stale vertex ≡ false → IsSound net flow far hops stale vertex

-- a list has each marked vertex, and vertices alone
pub record AreMarked (net : Net) (marks : List Bool) (vertices : List ℕ) : Type 0 where
  pub low : All (λ vertex. vertex < vertex_count net) vertices
  pub all : (vertex : ℕ) → mark_at marks vertex ≡ true → Contains vertices vertex

-- the marked vertices stand in a list, from a place on
abbrev pub AreAhead : List Bool → List ℕ → ℕ → Type 0
AreAhead marks vertices place = (vertex : ℕ) → mark_at marks vertex ≡ true → Contains (drop place vertices) vertex

-- ---- Offers
-- the order of offers: by what they gain, and then by their other parts
abbrev pub offer_order : Offer → Offer → Ordering
offer_order a b = ordering_then (int_cmp a.gain b.gain) (ordering_then (int_cmp a.far b.far) (ordering_then (nat_cmp a.hops b.hops) (nat_cmp a.vertex b.vertex)))

-- what a residual arc offers to its tail, given old labels and those that lead on: the label by it, and how much less that costs than the
-- old one
abbrev pub offer_by : (ℕ → Reach) → (ℕ → Reach) → Way → Offer
offer_by old right way = record { gain = cost (old way.tail) -ℤ cost (led_by way (right way.head)); far = way.length +ℤ (right way.head).length; hops = (right way.head).hops + 1; vertex = way.tail }

-- a residual arc leads from a stale vertex to one that isn't
abbrev pub is_open : List Bool → Way → Bool
is_open stale way = mark_at stale way.tail && not (mark_at stale way.head)

-- the offers of the residual arcs that do
abbrev pub offers_of : (ℕ → Reach) → List Bool → List Way → List Offer
offers_of labels stale ways = map (offer_by labels labels) (filter (is_open stale) ways)

-- offers come to those that were there before
abbrev pub AreAdded : List Offer → List Offer → List Offer → Type 0
AreAdded more before after = IsPermutation (before ++ more) after

-- an offer leaves others, and none of them gains more
pub record Leaves (before : List Offer) (first : Offer) (after : List Offer) : Type 0 where
  pub moved : IsPermutation before (first ∷ after)
  pub greatest : All (λ offer. offer.gain ≤ℤ first.gain) before

-- An offer is the first: of those to stale vertices none gains more. All the others of these are left, and nothing else than what was there.
pub record IsFirst (marks : List Bool) (offers : List Offer) (first : Offer) (rest : List Offer) : Type 0 where
  pub stale : mark_at marks first.vertex ≡ true
  pub there : Contains offers first
  pub greatest : All (λ offer. mark_at marks offer.vertex ≡ true → offer.gain ≤ℤ first.gain) offers
  pub left : All (λ offer. mark_at marks offer.vertex ≡ true → (offer ≡ first) ⊎ Contains rest offer) offers
  pub only : All (Contains offers) rest

-- no offer is to a stale vertex
abbrev pub NoneIsStale : List Bool → List Offer → Type 0
NoneIsStale marks offers = All (λ offer. mark_at marks offer.vertex ≡ false) offers

-- ---- Labels and marks, as numbers hold them
-- a residual arc whose offer can be worked out
pub record IsOffered (far : List ℤ) (hops : List ℕ) (way : Way) : Type 0 where
  pub tail : (way.tail < length far) × (way.tail < length hops)
  pub head : (way.head < length far) × (way.head < length hops)
  pub low : (pos 0 -ℤ pos (2 ^ 62)) ≤ℤ (way.length +ℤ at_vertex far way.head)
  pub high : (way.length +ℤ at_vertex far way.head) ≤ℤ pos (2 ^ 62)
  pub few : count_at hops way.head + 1 < 2 ^ 32

-- both residual arcs on an arc at a vertex can be: it leads to another vertex, and there are units for it
pub record IsOfferedBy (flow : Flow) (far : List ℤ) (hops : List ℕ) (vertex : ℕ) (near : Near) : Type 0 where
  pub apart : near.other ≢ vertex
  pub units : number_of near / 2 < length flow.pins
  pub out : IsOffered far hops (way_out vertex near)
  pub into : IsOffered far hops (way_in vertex near)

-- units, labels and marks, each for all pins or vertices, and each label within 2^42 and by fewer arcs than there are vertices
pub record AreHeld (net : Net) (flow : Flow) (far : List ℤ) (hops : List ℕ) (stale : List Bool) : Type 0 where
  pub units : length flow.pins ≡ length net.pins
  pub each_far : length far ≡ vertex_count net
  pub each_hops : length hops ≡ vertex_count net
  pub each_mark : length stale ≡ vertex_count net
  pub low : (vertex : ℕ) → vertex < vertex_count net → (pos 0 -ℤ pos (2 ^ 42)) ≤ℤ at_vertex far vertex
  pub high : (vertex : ℕ) → vertex < vertex_count net → at_vertex far vertex ≤ℤ pos (2 ^ 42)
  pub few : (vertex : ℕ) → vertex < vertex_count net → count_at hops vertex < vertex_count net
