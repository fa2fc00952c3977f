-- Labels that are being put right. Whatever was put right has its right label, and what is stale has its old one. The offer that gains most
-- of those to stale vertices is the right label of its vertex: from there a tight walk of right labels leads over an open residual arc,
-- whose offer gains no less than the right label would; and no offer gains more than the right label. Where no offer is to a stale vertex,
-- none is stale, for there would be such an arc.
use Rattle.std.proofs.Common.{◌≡◌, ◌<◌, ◌^◌, ◌∙◌, ℕ, ℤ, pos, ◌-ℤ◌, ◌≤ℤ◌, nat_lt, Bool, true, false, List, length, All, Contains, refl, ap, sym, subst, arith}
use Rattle.std.proofs.lemmas.Int.{ints}
use Rattle.std.proofs.lemmas.Bool.{both_ways, ltb-true, ltb-false}
use Rattle.std.proofs.lemmas.List.{get_or_past}
use Rattle.std.proofs.lemmas.List.Elements.{All-contains}
use Rattle.flow_net.specs.declared.net.Net.{Net}
use Rattle.flow_net.specs.declared.net.Flow.{Flow}
use Rattle.stage_flow.specs.declared.offers.Offer.{Offer}
use Rattle.stage_flow.specs.Residual.{Way, ways_of, vertex_count}
use Rattle.stage_flow.specs.Longest.{Reach}
use Rattle.stage_flow.specs.Rounds.{is_wanting}
use Rattle.stage_flow.specs.Given.{IsNetwork, at_vertex, count_at}
use Rattle.stage_flow.specs.LawsOfWalks.{led_by, label, AreLabels}
use Rattle.stage_flow.specs.Passes.{mark_at, reach_by, standing}
use Rattle.stage_flow.specs.Mending.{cost, AreRightOutside, is_open, offer_by, IsFirst, NoneIsStale, AreHeld}
use Rattle.stage_flow.proofs.Labels.{IsLow, way-fits, hops-below}
use Rattle.stage_flow.proofs.LabelBounds.{far-within_hops}
use Rattle.stage_flow.proofs.Round.{ways-low}
use Rattle.stage_flow.proofs.ProgressNetworks.{vertices-few, ends-among, light}
use Rattle.stage_flow.proofs.AgreedLabels.{labels-agree}
use Rattle.stage_flow.proofs.Costs.{cost-no_better, cost-same}
use Rattle.stage_flow.proofs.OldLabels.{crossing}
use Rattle.stage_flow.proofs.OpenArcs.{open-tail}

-- what a residual arc offers, by an old label and a right one
pub record IsMade (net : Net) (flow : Flow) (old right : ℕ → Reach) (offer : Offer) : Type 0 where
  pub way : Way
  pub there : Contains (ways_of net flow) way
  pub is : offer ≡ offer_by old right way

-- labels, marks and offers halfway
pub record IsHalfway (net : Net) (flow : Flow) (old : ℕ → Reach) (far : List ℤ) (hops : List ℕ) (stale : List Bool) (offers : List Offer) : Type 0 where
  pub each_far : length far ≡ vertex_count net
  pub each_hops : length hops ≡ vertex_count net
  pub each_mark : length stale ≡ vertex_count net
  pub lengths : ℕ → ℤ
  pub counts : ℕ → ℕ
  pub labels : AreLabels net flow lengths counts
  pub mirrors : (vertex : ℕ) → is_wanting net flow vertex ≡ true → mark_at stale vertex ≡ false
  pub fresh : (vertex : ℕ) → vertex < vertex_count net → mark_at stale vertex ≡ false → standing far hops vertex ≡ label lengths counts vertex
  pub before : (vertex : ℕ) → mark_at stale vertex ≡ true → standing far hops vertex ≡ old vertex
  pub made : All (IsMade net flow old (label lengths counts)) offers
  pub all : (way : Way) → Contains (ways_of net flow) way → is_open stale way ≡ true → Contains offers (offer_by old (label lengths counts) way)

-- A vertex that is marked has a mark.
pub marked-low : (marks : List Bool) (vertex : ℕ) → mark_at marks vertex ≡ true → vertex < length marks
marked-low marks vertex is = by (nat_lt vertex (length marks)) refl
  where
    by : (test : Bool) → nat_lt vertex (length marks) ≡ test → vertex < length marks
    by true low = ltb-true vertex (length marks) low
    by false high =
        absurd (both_ways (mark_at marks vertex) (get_or_past marks vertex false (ltb-false vertex (length marks) high)) is)

module _ (net : Net) (flow : Flow) (is : IsNetwork net) (old_far : ℕ → ℤ) (old_hops : ℕ → ℕ) (first_stale : List Bool) (right : AreRightOutside net flow old_far old_hops first_stale) where
  low : All (IsLow (vertex_count net)) (ways_of net flow)
  low = ways-low net flow (ends-among net is)

  -- ---- The first offer is right
  pub first-right : (far : List ℤ) (hops : List ℕ) (stale : List Bool) (offers : List Offer) (first : Offer) (rest : List Offer) → (was : IsHalfway net flow (label old_far old_hops) far hops stale offers) → IsFirst stale offers first rest → reach_by first.far first.hops ≡ label was.lengths was.counts first.vertex
  first-right far hops stale offers first rest was top =
      let best = label was.lengths was.counts in
      let old = label old_far old_hops in
      let within : first.vertex < vertex_count net = (let h = marked-low stale first.vertex top.stale in omega (arith, h, was.each_mark)) in
      let made = All-contains (IsMade net flow old best) offers first was.made top.there in
      let way = made.way in
      let ends = All-contains (IsLow (vertex_count net)) (ways_of net flow) way low made.there in
      let few = vertices-few net is in
      let at : first.vertex ≡ way.tail = ap (λ (o : Offer). o.vertex) made.is in
      let cross = crossing net flow old_far old_hops was.lengths was.counts first_stale few low right was.labels stale was.mirrors first.vertex within top.stale in
      let there = was.all cross.way cross.there cross.open_way in
      let most = All-contains (λ (o : Offer). mark_at stale o.vertex ≡ true → o.gain ≤ℤ first.gain) offers (offer_by old best cross.way) top.greatest there (open-tail stale cross.way cross.open_way) in
      let fit = way-fits was.lengths was.counts (ways_of net flow) was.labels.fits way made.there in
      let tail_few = hops-below net flow was.lengths was.counts was.labels low way.tail ends.0 in
      let head_few = hops-below net flow was.lengths was.counts was.labels low way.head ends.1 in
      let no_less = cost-no_better (led_by way (best way.head)) (best way.tail) (omega (arith, tail_few, few)) fit in
      let no_more : cost (led_by way (best way.head)) ≤ℤ cost (best way.tail) =
      gains (cost (old way.tail)) (cost (led_by way (best way.head))) (cost (old cross.way.tail)) (cost (led_by cross.way (best cross.way.head))) (cost (best cross.way.tail)) (cost (best way.tail)) first.gain
      (ap (λ (o : Offer). o.gain) made.is) most (ap cost cross.tight)
      (subst (λ v. (cost (best cross.way.tail) -ℤ cost (old cross.way.tail)) ≤ℤ (cost (best v) -ℤ cost (old v))) at cross.rise) in
      let same : led_by way (best way.head) ≡ best way.tail =
      cost-same (led_by way (best way.head)) (best way.tail) (omega (arith, head_few, few)) (omega (arith, tail_few, few)) (let e : cost (led_by way (best way.head)) ≡ cost (best way.tail) = omega (arith, ints, no_less, no_more) in e) in
      ap (λ (o : Offer). reach_by o.far o.hops) made.is ∙ same ∙ ap best (sym at)
    where
      gains : (own led other crossed other_best best gain : ℤ) → gain ≡ own -ℤ led → (other -ℤ crossed) ≤ℤ gain → crossed ≡ other_best → (other_best -ℤ other) ≤ℤ (best -ℤ own) → led ≤ℤ best
      gains own led other crossed other_best best gain is most same rise = omega (arith, ints, is, most, same, rise)

  -- ---- At the end none is stale
  pub none-stale : (far : List ℤ) (hops : List ℕ) (stale : List Bool) (offers : List Offer) → IsHalfway net flow (label old_far old_hops) far hops stale offers → NoneIsStale stale offers → (vertex : ℕ) → mark_at stale vertex ≡ false
  none-stale far hops stale offers was none vertex = by (mark_at stale vertex) refl
    where
      by : (test : Bool) → mark_at stale vertex ≡ test → mark_at stale vertex ≡ false
      by false fresh = fresh
      by true marked =
          let within : vertex < vertex_count net = (let h = marked-low stale vertex marked in omega (arith, h, was.each_mark)) in
          let cross = crossing net flow old_far old_hops was.lengths was.counts first_stale (vertices-few net is) low right was.labels stale was.mirrors vertex within marked in
          let out = All-contains (λ (o : Offer). mark_at stale o.vertex ≡ false) offers (offer_by (label old_far old_hops) (label was.lengths was.counts) cross.way) none (was.all cross.way cross.there cross.open_way) in
          absurd (both_ways (mark_at stale cross.way.tail) out (open-tail stale cross.way cross.open_way))

  -- and all labels are right.
  pub all-right : (far : List ℤ) (hops : List ℕ) (stale : List Bool) (offers : List Offer) → IsHalfway net flow (label old_far old_hops) far hops stale offers → NoneIsStale stale offers → AreLabels net flow (at_vertex far) (count_at hops)
  all-right far hops stale offers was none =
      labels-agree net flow was.lengths was.counts is was.labels far hops
      (λ vertex within.
      let same = was.fresh vertex within (none-stale far hops stale offers was none vertex) in
      (ap (λ (r : Reach). r.length) same, ap (λ (r : Reach). r.hops) same))

  -- ---- Numbers hold them
  pub halfway-held : (far : List ℤ) (hops : List ℕ) (stale : List Bool) (offers : List Offer) → length flow.pins ≡ length net.pins → IsHalfway net flow (label old_far old_hops) far hops stale offers → AreHeld net flow far hops stale
  halfway-held far hops stale offers units was = record {
    units = units;
    each_far = was.each_far;
    each_hops = was.each_hops;
    each_mark = was.each_mark;
    low = λ vertex within. (bounds vertex within).0;
    high = λ vertex within. (bounds vertex within).1;
    few = λ vertex within. (bounds vertex within).2;
  }
    where
      bounds : (vertex : ℕ) → vertex < vertex_count net → ((pos 0 -ℤ pos (2 ^ 42)) ≤ℤ at_vertex far vertex) × (at_vertex far vertex ≤ℤ pos (2 ^ 42)) × (count_at hops vertex < vertex_count net)
      bounds vertex within = by (mark_at stale vertex) refl
        where
          by : (test : Bool) → mark_at stale vertex ≡ test → ((pos 0 -ℤ pos (2 ^ 42)) ≤ℤ at_vertex far vertex) × (at_vertex far vertex ≤ℤ pos (2 ^ 42)) × (count_at hops vertex < vertex_count net)
          by true marked =
              let same = was.before vertex marked in
              let long = ap (λ (r : Reach). r.length) same in
              let many = ap (λ (r : Reach). r.hops) same in
              let own = right.held vertex within in
              (omega (arith, ints, long, own.0), omega (arith, ints, long, own.1), omega (arith, many, right.few vertex within))
          by false fresh =
              let same = was.fresh vertex within fresh in
              let long = ap (λ (r : Reach). r.length) same in
              let many = ap (λ (r : Reach). r.hops) same in
              let own = far-within_hops net flow was.lengths was.counts (ends-among net is) (light net is) was.labels vertex within in
              let few = vertices-few net is in
              (omega (arith, ints, long, own.0, own.1, own.2, few), omega (arith, ints, long, own.0, own.1, own.2, few), omega (arith, many, own.2))
