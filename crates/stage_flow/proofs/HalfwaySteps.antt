-- Labels are put right, step by step. At the start the vertices that aren't stale have their right labels already, and all offers to stale
-- ones are made. When the first offer is taken, a new offer comes about only by an arc into its vertex, and no offer to another vertex is
-- lost.
use Rattle.std.proofs.Common.{◌≡◌, ◌≢◌, ◌<◌, ◌∙◌, ◌++◌, ◌⊎◌, inl, inr, ℕ, zero, suc, ℤ, pos, Bool, true, false, not, List, [], ◌∷◌, length, set, All, Contains, refl, ap, sym, subst, arith, ⊎_elim}
use Rattle.std.specs.List.{flat_map}
use Rattle.std.proofs.lemmas.Bool.{both_ways, and_from, cases_eq}
use Rattle.std.proofs.lemmas.List.{get_or-set_same, get_or-set_other, length-set}
use Rattle.std.proofs.lemmas.List.Elements.{All-append, All-weaker, All-contains, Contains-append_left, Contains-append_right}
use Rattle.std.proofs.lemmas.List.Sorted.{All-permutation, Contains-permutation}
use Rattle.flow_net.specs.declared.net.Net.{Net}
use Rattle.flow_net.specs.declared.net.Flow.{Flow}
use Rattle.stage_flow.specs.declared.offers.Offer.{Offer}
use Rattle.stage_flow.specs.Residual.{Way, ways_of, vertex_count}
use Rattle.stage_flow.specs.Longest.{Reach}
use Rattle.stage_flow.specs.Given.{IsNetwork, at_vertex, count_at}
use Rattle.stage_flow.specs.LawsOfWalks.{label, AreLabels, FitsWay, potential_by}
use Rattle.stage_flow.specs.LawsOfSending.{IsPartFlow, SomeMirrorWants}
use Rattle.stage_flow.specs.Sending.{ways_near}
use Rattle.stage_flow.specs.Passes.{mark_at, reach_by, standing}
use Rattle.stage_flow.specs.Mending.{AreRightOutside, AreMarked, is_open, offer_by, offers_of, AreAdded, IsFirst}
use Rattle.stage_flow.proofs.Labels.{IsLow}
use Rattle.stage_flow.proofs.Round.{ways-low, fits-labelled}
use Rattle.stage_flow.proofs.LabelsExist.{labels-exist}
use Rattle.stage_flow.proofs.ProgressNetworks.{vertices-few, ends-among}
use Rattle.stage_flow.proofs.SendingSearch.{near-from, near-to}
use Rattle.stage_flow.proofs.OldLabels.{old-right}
use Rattle.stage_flow.proofs.OpenArcs.{open-tail, open-head, offer_by-same, IsMadeBy, made-from, made-to, All-flat_map, Contains-flat_map}
use Rattle.stage_flow.proofs.Halfway.{IsMade, IsHalfway, marked-low, first-right}

-- ---- Offers by the arcs at a vertex
module _ (net : Net) (flow : Flow) (old right standing' : ℕ → Reach) (stale : List Bool)
    (offered : (way : Way) → Contains (ways_of net flow) way → is_open stale way ≡ true → offer_by standing' standing' way ≡ offer_by old right way) (vertex : ℕ) where
  near-made : All (IsMade net flow old right) (offers_of standing' stale (ways_near net flow vertex))
  near-made =
      All-weaker (IsMadeBy standing' stale (ways_near net flow vertex)) (IsMade net flow old right)
      (λ offer made.
      let there = near-from net flow vertex made.way made.there in
      record { way = made.way; there = there; is = made.is ∙ offered made.way there made.is_open })
      (offers_of standing' stale (ways_near net flow vertex)) (made-from standing' stale (ways_near net flow vertex))

  near-all : (way : Way) → Contains (ways_of net flow) way → is_open stale way ≡ true → (way.tail ≡ vertex) ⊎ (way.head ≡ vertex) → Contains (offers_of standing' stale (ways_near net flow vertex)) (offer_by old right way)
  near-all way there is at =
      subst (Contains (offers_of standing' stale (ways_near net flow vertex))) (offered way there is)
      (made-to standing' stale (ways_near net flow vertex) way (near-to net flow vertex way there at) is)

-- ---- The start
module _ (net : Net) (flow : Flow) (is : IsNetwork net) (far : List ℤ) (hops : List ℕ) (stale : List Bool) (vertices : List ℕ) (right : AreRightOutside net flow (at_vertex far) (count_at hops) stale) (marked : AreMarked net stale vertices)
    (lengths : ℕ → ℤ) (counts : ℕ → ℕ) (labels : AreLabels net flow lengths counts) where
  low-ways : All (IsLow (vertex_count net)) (ways_of net flow)
  low-ways = ways-low net flow (ends-among net is)

  first-fresh : (vertex : ℕ) → vertex < vertex_count net → mark_at stale vertex ≡ false → standing far hops vertex ≡ label lengths counts vertex
  first-fresh = old-right net flow (at_vertex far) (count_at hops) lengths counts stale (vertices-few net is) low-ways right labels

  first-offered : (way : Way) → Contains (ways_of net flow) way → is_open stale way ≡ true → offer_by (standing far hops) (standing far hops) way ≡ offer_by (standing far hops) (label lengths counts) way
  first-offered way there open_way =
      let ends = All-contains (IsLow (vertex_count net)) (ways_of net flow) way low-ways there in
      offer_by-same (standing far hops) (standing far hops) (standing far hops) (label lengths counts) way refl (first-fresh way.head ends.1 (open-head stale way open_way))

  -- the offers of the residual arcs at one vertex
  abbrev offers_near : ℕ → List Offer
  offers_near vertex = offers_of (standing far hops) stale (ways_near net flow vertex)

  pub halfway-first : (offers : List Offer) → length far ≡ vertex_count net → length hops ≡ vertex_count net → length stale ≡ vertex_count net → AreAdded (flat_map (λ vertex. offers_of (standing far hops) stale (ways_near net flow vertex)) vertices) [] offers → IsHalfway net flow (label (at_vertex far) (count_at hops)) far hops stale offers
  halfway-first offers each_far each_hops each_mark moved =
      let old = standing far hops in
      let best = label lengths counts in record {
        each_far = each_far;
        each_hops = each_hops;
        each_mark = each_mark;
        lengths = lengths;
        counts = counts;
        labels = labels;
        mirrors = λ vertex wants. (right.nothing vertex wants).1;
        fresh = first-fresh;
        before = λ vertex is_stale. refl;
        made =
            All-permutation (IsMade net flow old best) (flat_map offers_near vertices) offers moved
            (All-flat_map (IsMade net flow old best) offers_near vertices (λ vertex. near-made net flow old best old stale first-offered vertex));
        all = λ way there open_way.
            Contains-permutation (flat_map offers_near vertices) offers (offer_by old best way) moved
            (Contains-flat_map offers_near vertices way.tail (offer_by old best way) (marked.all way.tail (open-tail stale way open_way))
            (near-all net flow old best old stale first-offered way.tail way there open_way (inl refl)));
      }

-- ---- A step
module _ (net : Net) (flow : Flow) (is : IsNetwork net) (old_far : ℕ → ℤ) (old_hops : ℕ → ℕ) (first_stale : List Bool) (right : AreRightOutside net flow old_far old_hops first_stale)
    (far far' : List ℤ) (hops hops' : List ℕ) (stale stale' : List Bool) (offers rest : List Offer) (first : Offer)
    (was : IsHalfway net flow (label old_far old_hops) far hops stale offers) (top : IsFirst stale offers first rest)
    (new_far : far' ≡ set far first.vertex first.far) (new_hops : hops' ≡ set hops first.vertex first.hops) (new_stale : stale' ≡ set stale first.vertex false) where
  best : ℕ → Reach
  best = label was.lengths was.counts

  within : first.vertex < vertex_count net
  within = let h = marked-low stale first.vertex top.stale in omega (arith, h, was.each_mark)

  standing-here : standing far' hops' first.vertex ≡ label was.lengths was.counts first.vertex
  standing-here =
      let low_far : first.vertex < length far = omega (arith, within, was.each_far) in
      let low_hops : first.vertex < length hops = omega (arith, within, was.each_hops) in
      let long : at_vertex far' first.vertex ≡ first.far = ap (λ xs. at_vertex xs first.vertex) new_far ∙ get_or-set_same far first.vertex first.far (pos 0) low_far in
      let many : count_at hops' first.vertex ≡ first.hops = ap (λ xs. count_at xs first.vertex) new_hops ∙ get_or-set_same hops first.vertex first.hops 0 low_hops in
      let same : standing far' hops' first.vertex ≡ reach_by first.far first.hops = λ i. record { length = long i; hops = many i } in
      same ∙ first-right net flow is old_far old_hops first_stale right far hops stale offers first rest was top

  standing-else : (vertex : ℕ) → vertex ≢ first.vertex → standing far' hops' vertex ≡ standing far hops vertex
  standing-else vertex other =
      let long : at_vertex far' vertex ≡ at_vertex far vertex = ap (λ xs. at_vertex xs vertex) new_far ∙ get_or-set_other far first.vertex vertex first.far (pos 0) other in
      let many : count_at hops' vertex ≡ count_at hops vertex = ap (λ xs. count_at xs vertex) new_hops ∙ get_or-set_other hops first.vertex vertex first.hops 0 other in
      λ i. record { length = long i; hops = many i }

  mark-here : mark_at stale' first.vertex ≡ false
  mark-here = ap (λ xs. mark_at xs first.vertex) new_stale ∙ get_or-set_same stale first.vertex false false (marked-low stale first.vertex top.stale)

  mark-else : (vertex : ℕ) → vertex ≢ first.vertex → mark_at stale' vertex ≡ mark_at stale vertex
  mark-else vertex other = ap (λ xs. mark_at xs vertex) new_stale ∙ get_or-set_other stale first.vertex vertex false false other

  -- What is stale now was before.
  still-stale : (vertex : ℕ) → mark_at stale' vertex ≡ true → (vertex ≢ first.vertex) × (mark_at stale vertex ≡ true)
  still-stale vertex marked =
      let other : vertex ≢ first.vertex = λ same. both_ways (mark_at stale' vertex) (ap (mark_at stale') same ∙ mark-here) marked in
      (other, sym (mark-else vertex other) ∙ marked)

  next-fresh : (vertex : ℕ) → vertex < vertex_count net → mark_at stale' vertex ≡ false → standing far' hops' vertex ≡ label was.lengths was.counts vertex
  next-fresh vertex low fresh =
      ⊎_elim {C = standing far' hops' vertex ≡ label was.lengths was.counts vertex}
      (λ same. ap (standing far' hops') same ∙ standing-here ∙ ap (label was.lengths was.counts) (sym same))
      (λ other. standing-else vertex other ∙ was.fresh vertex low (sym (mark-else vertex other) ∙ fresh))
      (cases_eq vertex first.vertex)

  next-before : (vertex : ℕ) → mark_at stale' vertex ≡ true → standing far' hops' vertex ≡ label old_far old_hops vertex
  next-before vertex marked = let (other, before) = still-stale vertex marked in standing-else vertex other ∙ was.before vertex before

  next-offered : (way : Way) → Contains (ways_of net flow) way → is_open stale' way ≡ true → offer_by (standing far' hops') (standing far' hops') way ≡ offer_by (label old_far old_hops) (label was.lengths was.counts) way
  next-offered way there open_way =
      let ends = All-contains (IsLow (vertex_count net)) (ways_of net flow) way (ways-low net flow (ends-among net is)) there in
      offer_by-same (standing far' hops') (label old_far old_hops) (standing far' hops') (label was.lengths was.counts) way
      (next-before way.tail (open-tail stale' way open_way)) (next-fresh way.head ends.1 (open-head stale' way open_way))

  -- the offers of the residual arcs at the vertex
  abbrev new_offers : List Offer
  new_offers = offers_of (standing far' hops') stale' (ways_near net flow first.vertex)

  -- An offer that was there is still, if its vertex is still stale.
  still-there : (way : Way) → Contains (ways_of net flow) way → is_open stale' way ≡ true → way.head ≢ first.vertex → Contains rest (offer_by (label old_far old_hops) (label was.lengths was.counts) way)
  still-there way there open_way apart =
      let offer = offer_by (label old_far old_hops) (label was.lengths was.counts) way in
      let (other, tail) = still-stale way.tail (open-tail stale' way open_way) in
      let head : mark_at stale way.head ≡ false = sym (mark-else way.head apart) ∙ open-head stale' way open_way in
      let was_open : is_open stale way ≡ true = and_from (mark_at stale way.tail) (not (mark_at stale way.head)) tail (ap not head) in
      ⊎_elim {C = Contains rest offer}
      (λ same. absurd (other (ap (λ (o : Offer). o.vertex) same)))
      (λ left. left)
      (All-contains (λ (o : Offer). mark_at stale o.vertex ≡ true → (o ≡ first) ⊎ Contains rest o) offers offer top.left (was.all way there was_open) tail)

  pub halfway-next : (offers' : List Offer) → AreAdded (offers_of (standing far' hops') stale' (ways_near net flow first.vertex)) rest offers' → IsHalfway net flow (label old_far old_hops) far' hops' stale' offers'
  halfway-next offers' moved =
      let old = label old_far old_hops in
      let right = label was.lengths was.counts in record {
        each_far = ap length new_far ∙ length-set far first.vertex first.far ∙ was.each_far;
        each_hops = ap length new_hops ∙ length-set hops first.vertex first.hops ∙ was.each_hops;
        each_mark = ap length new_stale ∙ length-set stale first.vertex false ∙ was.each_mark;
        lengths = was.lengths;
        counts = was.counts;
        labels = was.labels;
        mirrors = λ vertex wants.
            ⊎_elim {C = mark_at stale' vertex ≡ false} (λ same. ap (mark_at stale') same ∙ mark-here) (λ other. mark-else vertex other ∙ was.mirrors vertex wants) (cases_eq vertex first.vertex);
        fresh = next-fresh;
        before = next-before;
        made =
            All-permutation (IsMade net flow old right) (rest ++ new_offers) offers' moved
            (All-append (IsMade net flow old right) rest new_offers
            (All-weaker (Contains offers) (IsMade net flow old right) (λ offer there. All-contains (IsMade net flow old right) offers offer was.made there) rest top.only)
            (near-made net flow old right (standing far' hops') stale' next-offered first.vertex));
        all = λ way there open_way.
            Contains-permutation (rest ++ new_offers) offers' (offer_by old right way) moved
            (⊎_elim {C = Contains (rest ++ new_offers) (offer_by old right way)}
            (λ same.
            Contains-append_right rest new_offers (offer_by old right way)
            (near-all net flow old right (standing far' hops') stale' next-offered first.vertex way there open_way (inr same)))
            (λ apart. Contains-append_left rest new_offers (offer_by old right way) (still-there way there open_way apart))
            (cases_eq way.head first.vertex));
      }

-- ---- How many are stale
abbrev pub stale_count : List Bool → ℕ
stale_count [] = 0
stale_count (true ∷ marks) = suc (stale_count marks)
stale_count (false ∷ marks) = stale_count marks

pub stale_count-cleared : (marks : List Bool) (vertex : ℕ) → mark_at marks vertex ≡ true → suc (stale_count (set marks vertex false)) ≡ stale_count marks
stale_count-cleared [] vertex is = absurd (cc)
stale_count-cleared (true ∷ marks) zero is = refl
stale_count-cleared (false ∷ marks) zero is = absurd (cc)
stale_count-cleared (true ∷ marks) (suc vertex) is = ap suc (stale_count-cleared marks vertex is)
stale_count-cleared (false ∷ marks) (suc vertex) is = stale_count-cleared marks vertex is

-- What is marked still was before.
pub marked-before : (marks : List Bool) (cleared vertex : ℕ) → mark_at (set marks cleared false) vertex ≡ true → mark_at marks vertex ≡ true
marked-before [] cleared vertex is = is
marked-before (mark ∷ marks) zero zero is = absurd (cc)
marked-before (mark ∷ marks) zero (suc vertex) is = is
marked-before (mark ∷ marks) (suc cleared) zero is = is
marked-before (mark ∷ marks) (suc cleared) (suc vertex) is = marked-before marks cleared vertex is

-- ---- There are right labels
-- Old labels fit, so their lengths, negated, are potentials that fit.
pub right-exist : (net : Net) (flow : Flow) (far : ℕ → ℤ) (hops : ℕ → ℕ) (stale : List Bool) → IsNetwork net → IsPartFlow net flow → SomeMirrorWants net flow → AreRightOutside net flow far hops stale → (lengths : ℕ → ℤ) × (counts : ℕ → ℕ) × AreLabels net flow lengths counts
right-exist net flow far hops stale is part some right =
    subst (λ (n : Net). IsPartFlow n flow → SomeMirrorWants n flow → All (FitsWay (potential_by far)) (ways_of n flow) → (lengths : ℕ → ℤ) × (counts : ℕ → ℕ) × AreLabels n flow lengths counts) (sym is.is)
    (λ own wants fits. labels-exist is.gates is.phases flow (potential_by far) is.formed.formed is.used own wants fits) part some (fits-labelled far hops (ways_of net flow) right.fits)
