-- Offers that are added one lot after another, and the labels that they are worked out from, which numbers hold.
use Rattle.std.proofs.Common.{◌≡◌, ◌<◌, ◌+◌, ◌∙◌, ◌++◌, ℕ, ℤ, pos, negsuc, ◌≤ℤ◌, Bool, true, false, not, nat_lt, List, [], ◌∷◌, length, get_or, take, map, filter, All, refl, ap, sym, subst, arith}
use Rattle.std.specs.List.{flat_map}
use Rattle.std.specs.List.Sorted.{IsPermutation}
use Rattle.std.proofs.lemmas.Int.{ints}
use Rattle.std.proofs.lemmas.List.{flat_map_more, take_more, map-append}
use Rattle.std.proofs.lemmas.List.Elements.{All-contains, All-weaker, filter-append}
use Rattle.std.proofs.lemmas.List.Sorted.{IsPermutation-trans, IsPermutation-append_left}
use Rattle.flow_net.specs.declared.net.Net.{Net}
use Rattle.flow_net.specs.declared.net.Flow.{Flow}
use Rattle.flow_net.specs.Arcs.{Arc}
use Rattle.stage_flow.specs.declared.offers.Offer.{Offer}
use Rattle.stage_flow.specs.declared.ways.Near.{Near}
use Rattle.stage_flow.specs.Residual.{Way, adding, ways_on, ways_of, vertex_count}
use Rattle.stage_flow.specs.Longest.{Reach}
use Rattle.stage_flow.specs.Given.{IsNetwork, IsRow, near_arc}
use Rattle.stage_flow.specs.Sending.{residual, way_out, way_in, ways_by}
use Rattle.stage_flow.specs.Mending.{is_open, offer_by, offers_of, AreAdded, IsOffered, IsOfferedBy, AreHeld}
use Rattle.stage_flow.proofs.NearArcs.{out-ends, in-ends}
use Rattle.stage_flow.proofs.SendingSearch.{IsNear, row-near}
use Rattle.stage_flow.proofs.Along.{adding-in}
use Rattle.stage_flow.proofs.ProgressNetworks.{vertices-few, ends-among, ways-short}

-- what is added for one item more
pub added-more : {A : Type 0} (offers : A → List Offer) (items : List A) (i : ℕ) (d : A) (before between after : List Offer) → i < length items → AreAdded (flat_map offers (take i items)) before between → AreAdded (offers (get_or items i d)) between after → AreAdded (flat_map offers (take (i + 1) items)) before after
added-more offers items i d before between after within one two =
    let own = offers (get_or items i d) in
    subst (λ l. IsPermutation (before ++ flat_map offers l) after) (sym (take_more items i d within))
    (subst (λ l. IsPermutation l after) (flat_map_more offers before (take i items) (get_or items i d))
    (IsPermutation-trans ((before ++ flat_map offers (take i items)) ++ own) (between ++ own) after (IsPermutation-append_left own (before ++ flat_map offers (take i items)) between one) two))

pub offers_of-append : (labels : ℕ → Reach) (stale : List Bool) (a b : List Way) → offers_of labels stale (a ++ b) ≡ offers_of labels stale a ++ offers_of labels stale b
offers_of-append labels stale a b =
    ap (map (offer_by labels labels)) (filter-append (is_open stale) a b) ∙ map-append (offer_by labels labels) (filter (is_open stale) a) (filter (is_open stale) b)

-- the offers of the residual arcs on an arc at a vertex
abbrev pub offers_over : ℕ → Flow → (ℕ → Reach) → List Bool → Near → List Offer
offers_over vertex flow labels stale near = offers_of labels stale (ways_on flow (near_arc vertex near))

pub offers_of-nears : (vertex : ℕ) (flow : Flow) (labels : ℕ → Reach) (stale : List Bool) (nears : List Near) → offers_of labels stale (ways_by vertex flow nears) ≡ flat_map (offers_over vertex flow labels stale) nears
offers_of-nears vertex flow labels stale [] = refl
offers_of-nears vertex flow labels stale (near ∷ nears) =
    offers_of-append labels stale (ways_on flow (near_arc vertex near)) (ways_by vertex flow nears)
    ∙ ap (λ rest. offers_over vertex flow labels stale near ++ rest) (offers_of-nears vertex flow labels stale nears)

-- Each of the two residual arcs on an arc is as short as it.
short-residual : (takes : Bool) (arc : Arc) → (arc.length ≤ℤ pos 1) × (negsuc 0 ≤ℤ arc.length) → ((residual takes arc).length ≤ℤ pos 1) × (negsuc 0 ≤ℤ (residual takes arc).length)
short-residual true arc short = (omega (arith, ints, short.0, short.1), omega (arith, ints, short.0, short.1))
short-residual false arc short = short

module _ (net : Net) (flow : Flow) (far : List ℤ) (hops : List ℕ) (stale : List Bool) (is : IsNetwork net) (held : AreHeld net flow far hops stale) where
  -- What a residual arc offers can be worked out.
  way-offered : (way : Way) → way.tail < vertex_count net → way.head < vertex_count net → (way.length ≤ℤ pos 1) × (negsuc 0 ≤ℤ way.length) → IsOffered far hops way
  way-offered way tail head short = record {
    tail = (omega (arith, tail, held.each_far), omega (arith, tail, held.each_hops));
    head = (omega (arith, head, held.each_far), omega (arith, head, held.each_hops));
    low = omega (arith, ints, short.0, short.1, held.low way.head head, held.high way.head head);
    high = omega (arith, ints, short.0, short.1, held.low way.head head, held.high way.head head);
    few = omega (arith, held.few way.head head, vertices-few net is);
  }

  near-offered : (vertex : ℕ) (near : Near) → vertex < vertex_count net → IsNear net vertex near → IsOfferedBy flow far hops vertex near
  near-offered vertex near low known =
      let arc = near_arc vertex near in
      let short = All-contains (λ (one : Way). (one.length ≤ℤ pos 1) × (negsuc 0 ≤ℤ one.length)) (ways_of net flow) (adding arc) (ways-short net flow is) (adding-in net flow arc known.there) in
      let leaves = out-ends vertex near in
      let enters = in-ends vertex near in record {
        apart = known.apart;
        units = omega (arith, known.pin, held.units);
        out = way-offered (way_out vertex near) (omega (arith, leaves.0, low)) (omega (arith, leaves.1, known.low)) (short-residual (nat_lt near.other vertex) arc short);
        into = way-offered (way_in vertex near) (omega (arith, enters.0, known.low)) (omega (arith, enters.1, low)) (short-residual (not (nat_lt near.other vertex)) arc short);
      }

  -- So can what those on the arcs of a vertex' row offer.
  pub row-offered : (vertex : ℕ) (nears : List Near) → vertex < vertex_count net → IsRow net vertex nears → All (IsOfferedBy flow far hops vertex) nears
  row-offered vertex nears low row =
      All-weaker (IsNear net vertex) (IsOfferedBy flow far hops vertex) (λ near known. near-offered vertex near low known) nears (row-near net vertex nears (ends-among net is) row)
