-- Labels of marked vertices that are raised. A vertex is raised only where it is marked and the residual arcs out of it still fit. An arc
-- out of any other vertex fits as before, since its head's label has no fewer arcs; and where it is tight, the head was not raised, since
-- the arc didn't fit otherwise. So nothing changes at unmarked vertices, and marked ones stay dead unless they were raised.
use Rattle.std.proofs.Common.{◌≡◌, ◌<◌, ◌≤◌, ◌+◌, ◌^◌, ◌+ℤ◌, ◌∙◌, ◌⊎◌, inl, inr, ℕ, ℤ, Bool, true, false, List, length, drop, All, Contains, refl, ap, sym, subst, arith, true≢false, ⊎_elim}
use Rattle.std.proofs.lemmas.Bool.{cases_lt}
use Rattle.std.proofs.lemmas.Int.{ints}
use Rattle.std.proofs.lemmas.List.{get_or_past}
use Rattle.std.proofs.lemmas.List.Elements.{All-contains, All-weaker, All-contains_itself}
use Rattle.flow_net.specs.declared.net.Net.{Net}
use Rattle.flow_net.specs.declared.net.Flow.{Flow}
use Rattle.stage_flow.specs.Residual.{Way, ways_of, vertex_count}
use Rattle.stage_flow.specs.Longest.{Reach}
use Rattle.stage_flow.specs.Given.{IsNetwork, count_at}
use Rattle.stage_flow.specs.LawsOfWalks.{led_by, label, IsFitting, IsTight}
use Rattle.stage_flow.specs.Sending.{ways_near, AreRead}
use Rattle.stage_flow.specs.Passes.{mark_at}
use Rattle.stage_flow.specs.Mending.{IsSound, AreRightOutside}
use Rattle.stage_flow.specs.Staleness.{AreNear, AreKept}
use Rattle.stage_flow.specs.Raising.{lifted, AreTracked, StaysFitting, MayRise, AreDeadBut, AreKeptBut}
use Rattle.stage_flow.proofs.Walks.{no_better-test, test-no_better}
use Rattle.stage_flow.proofs.Labels.{IsLow, tight-nearer}
use Rattle.stage_flow.proofs.ProgressNetworks.{vertices-few, ends-among}
use Rattle.stage_flow.proofs.SendingSearch.{near-to}

-- ---- Arcs that fit
-- Whether an arc fits is a matter of lengths, and where it is level, of numbers of arcs.
pub fits-still : (far : ℕ → ℤ) (hops hops' : ℕ → ℕ) (way : Way) → (way.length +ℤ far way.head ≡ far way.tail → hops' way.tail ≤ hops' way.head + 1) → IsFitting far hops way → IsFitting far hops' way
fits-still far hops hops' way level fits =
    let was = no_better-test (led_by way (label far hops way.head)) (label far hops way.tail) fits in
    test-no_better (led_by way (label far hops' way.head)) (label far hops' way.tail) (record { no_longer = was.no_longer; no_fewer = level })

pub level-no_fewer : (far : ℕ → ℤ) (hops : ℕ → ℕ) (way : Way) → IsFitting far hops way → way.length +ℤ far way.head ≡ far way.tail → hops way.tail ≤ hops way.head + 1
level-no_fewer far hops way fits = (no_better-test (led_by way (label far hops way.head)) (label far hops way.tail) fits).no_fewer

-- ---- Arcs at a vertex
-- Where the residual arcs out of a vertex stay fitting by the arcs near it, all do.
pub near-fits : (net : Net) (flow : Flow) (far : ℕ → ℤ) (hops : ℕ → ℕ) (heights : List ℕ) (floor vertex : ℕ) (ways : List Way) → ways ≡ ways_near net flow vertex → All (StaysFitting far hops heights floor vertex) ways → All (StaysFitting far hops heights floor vertex) (ways_of net flow)
near-fits net flow far hops heights floor vertex ways is all =
    All-weaker (Contains (ways_of net flow)) (StaysFitting far hops heights floor vertex)
    (λ way there begins.
    All-contains (StaysFitting far hops heights floor vertex) (ways_near net flow vertex) way
    (subst (All (StaysFitting far hops heights floor vertex)) is all) (near-to net flow vertex way there (inl begins)) begins)
    (ways_of net flow) (All-contains_itself (ways_of net flow))

-- No vertex is above a floor that no height is above.
pub none-rise : (net : Net) (flow : Flow) (far : ℕ → ℤ) (hops : ℕ → ℕ) (marks : List Bool) (heights : List ℕ) (floor : ℕ) → ((vertex : ℕ) → count_at heights vertex ≤ floor) → (vertex : ℕ) → MayRise net flow far hops marks heights floor vertex
none-rise net flow far hops marks heights floor below vertex above = absurd (let low = below vertex in omega (arith, low, above))

-- What is read is there.
pub reads : (net : Net) (flow : Flow) (far : List ℤ) (hops : List ℕ) → IsNetwork net → length flow.pins ≡ length net.pins → length far ≡ vertex_count net → length hops ≡ vertex_count net → AreRead net flow far hops
reads net flow far hops is units each_far each_hops = record { few = vertices-few net is; ends = ends-among net is; units = units; each_far = each_far; each_hops = each_hops }

-- ---- Heights
-- the vertices of a list, from a place on, that are not at rest
abbrev pub AreListedFrom : List ℕ → List ℕ → ℕ → Type 0
AreListedFrom heights reached place = (vertex : ℕ) → (count_at heights vertex ≡ 0) ⊎ Contains (drop place reached) vertex

-- The numbers of arcs that come of it, as a list.
pub raised-counts : (hops hops' heights heights' grown result : List ℕ) (floor : ℕ) → result ≡ grown → ((vertex : ℕ) → count_at grown vertex ≡ lifted (count_at hops') heights' floor vertex) → hops' ≡ hops → heights' ≡ heights
    → ◌≡◌ {A = ℕ → ℕ} (lifted (count_at hops) heights floor) (count_at result)
raised-counts hops hops' heights heights' grown result floor is each same_hops same_heights = λ i vertex. at vertex i
  where
    at : (vertex : ℕ) → lifted (count_at hops) heights floor vertex ≡ count_at result vertex
    at vertex =
        sym (ap (λ xs. count_at xs vertex) is ∙ each vertex ∙ ap (λ xs. lifted (count_at xs) heights' floor vertex) same_hops ∙ ap (λ xs. lifted (count_at hops) xs floor vertex) same_heights)

-- ---- What is raised
module _ (net : Net) (flow : Flow) (far : ℕ → ℤ) (hops : ℕ → ℕ) (marks : List Bool) (heights : List ℕ) (floor : ℕ) (low : All (IsLow (vertex_count net)) (ways_of net flow)) (kept : AreKept net flow far hops marks) (may : (vertex : ℕ) → MayRise net flow far hops marks heights floor vertex) where
  abbrev new : ℕ → ℕ
  new = lifted hops heights floor

  grown : (vertex : ℕ) → hops vertex ≤ new vertex
  grown vertex = omega arith

  -- an unmarked vertex stays
  stays : (vertex : ℕ) → mark_at marks vertex ≡ false → new vertex ≡ hops vertex
  stays vertex free =
      ⊎_elim {C = new vertex ≡ hops vertex} (λ above. absurd (true≢false (sym (may vertex above).0 ∙ free))) (λ below. omega (arith, below)) (cases_lt floor (count_at heights vertex))

  fits-on : (way : Way) → Contains (ways_of net flow) way → IsFitting far new way
  fits-on way there =
      let fits = All-contains (IsFitting far hops) (ways_of net flow) way kept.right.fits there in
      ⊎_elim {C = IsFitting far new way}
      (λ above. All-contains (StaysFitting far hops heights floor way.tail) (ways_of net flow) way (may way.tail above).2 there refl fits)
      (λ below. fits-still far hops new way (λ level. let few = level-no_fewer far hops way fits level in let more = grown way.head in omega (arith, below, few, more)) fits)
      (cases_lt floor (count_at heights way.tail))

  -- a tight arc stays so where neither end is raised
  tight-still : (way : Way) → new way.tail ≡ hops way.tail → new way.head ≡ hops way.head → IsTight far hops way → IsTight far new way
  tight-still way tail head tight = ap (λ n. led_by way (record { length = far way.head; hops = n })) head ∙ tight ∙ ap (λ n. record { length = far way.tail; hops = n }) (sym tail)

  -- and was so before where its tail isn't raised
  tight-before : (way : Way) → Contains (ways_of net flow) way → new way.tail ≡ hops way.tail → IsTight far new way → IsTight far hops way
  tight-before way there tail tight =
      let fits = All-contains (IsFitting far hops) (ways_of net flow) way kept.right.fits there in
      let level : way.length +ℤ far way.head ≡ far way.tail = ap (λ (r : Reach). r.length) tight in
      let few = level-no_fewer far hops way fits level in
      let nearer = tight-nearer far new way tight in
      let more = grown way.head in
      let same : new way.head ≡ hops way.head = omega (arith, few, nearer, more, tail) in
      ap (λ n. led_by way (record { length = far way.head; hops = n })) (sym same) ∙ tight ∙ ap (λ n. record { length = far way.tail; hops = n }) tail

  sound-still : (vertex : ℕ) → mark_at marks vertex ≡ false → IsSound net flow far hops marks vertex → IsSound net flow far new marks vertex
  sound-still vertex free (inl wants) = inl wants
  sound-still vertex free (inr (k, way, within, there, (begins, tight, away))) =
      inr (k, way, within, there, (begins, tight-still way (stays way.tail (ap (mark_at marks) begins ∙ free)) (stays way.head away) tight, away))

  pub raised-right : AreRightOutside net flow far new marks
  raised-right = record {
    fits = All-weaker (Contains (ways_of net flow)) (IsFitting far new) fits-on (ways_of net flow) (All-contains_itself (ways_of net flow));
    nothing = λ vertex wants.
        let was = kept.right.nothing vertex wants in
        (ap (λ n. record { length = far vertex; hops = n }) (stays vertex was.1) ∙ was.0, was.1);
    few = λ vertex within.
        ⊎_elim {C = new vertex < vertex_count net} (λ above. (may vertex above).1) (λ below. let was = kept.right.few vertex within in omega (arith, below, was)) (cases_lt floor (count_at heights vertex));
    held = kept.right.held;
    sound = λ vertex within free. sound-still vertex free (kept.right.sound vertex within free);
  }

  pub raised-near : AreNear net far new
  raised-near vertex within =
      let was = kept.near vertex within in
      let more = grown vertex in
      (omega (arith, ints, was.0, more), omega (arith, ints, was.1, more))

  pub raised-dead : (reached : List ℕ) → AreTracked heights reached → AreDeadBut net flow far new marks reached
  raised-dead reached tracked =
      All-weaker (Contains (ways_of net flow)) (λ way. IsTight far new way → mark_at marks way.tail ≡ true → (mark_at marks way.head ≡ true) ⊎ Contains reached way.tail)
      (λ way there tight marked.
      ⊎_elim {C = (mark_at marks way.head ≡ true) ⊎ Contains reached way.tail}
      (λ none.
      let before = tight-before way there (omega (arith, none)) tight in
      inl (All-contains (λ (one : Way). IsTight far hops one → mark_at marks one.tail ≡ true → mark_at marks one.head ≡ true) (ways_of net flow) way kept.dead there before marked))
      (λ listed. inr listed) (tracked.listed way.tail))
      (ways_of net flow) (All-contains_itself (ways_of net flow))

  pub raised-kept : (reached : List ℕ) → AreTracked heights reached → AreKeptBut net flow far new marks reached
  raised-kept reached tracked = record { right = raised-right; dead = raised-dead reached tracked; near = raised-near }

  -- Numbers of arcs fit 32 bits.
  pub raised-few : vertex_count net < 2 ^ 32 → length heights ≡ vertex_count net → ((vertex : ℕ) → vertex_count net ≤ vertex → hops vertex ≡ 0) → (vertex : ℕ) → new vertex < 2 ^ 32
  raised-few many each past vertex =
      ⊎_elim {C = new vertex < 2 ^ 32}
      (λ within. let few = raised-right.few vertex within in omega (arith, few, many))
      (λ beyond. let none = past vertex beyond in let low = get_or_past heights vertex 0 (omega (arith, beyond, each)) in omega (arith, none, low))
      (cases_lt vertex (vertex_count net))
