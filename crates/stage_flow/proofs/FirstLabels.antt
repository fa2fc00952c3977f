-- Labels to begin with are right at the mirrors that want, and elsewhere no worse than right. Over potentials that fit, no residual arc
-- is longer than the potential rises on it. Raise the potential at the mirrors that want to the greatest among theirs: no residual arc
-- leaves them, so it still fits. How far the raised potential is below that greatest is then a length that each residual arc fits, with
-- no arcs, and it is nothing at the mirrors that want.
use Rattle.std.proofs.Common.{◌≡◌, ◌<◌, ◌+◌, ◌^◌, ◌++◌, ◌∙◌, inl, ℕ, ℤ, pos, ◌-ℤ◌, ◌≤ℤ◌, Bool, true, false, not, cond, List, [], ◌∷◌, length, All, Contains, refl, ap, sym, subst, arith, ⊎_elim}
use Rattle.std.proofs.lemmas.Bool.{cases_lt, true≢false}
use Rattle.std.proofs.lemmas.Int.{ints}
use Rattle.std.proofs.lemmas.List.{get_or_append_left, get_or_push}
use Rattle.std.proofs.lemmas.List.Elements.{All-weaker, All-contains, All-contains_itself, Contains-push, Contains-append_left}
use Rattle.flow_net.specs.declared.net.Net.{Net}
use Rattle.flow_net.specs.declared.net.Flow.{Flow}
use Rattle.stage_flow.specs.Residual.{Way, ways_of, vertex_count}
use Rattle.stage_flow.specs.Rounds.{is_wanting}
use Rattle.stage_flow.specs.Given.{IsNetwork, ArePotentials, at_vertex, count_at}
use Rattle.stage_flow.specs.LawsOfWalks.{led_by, label, IsFitting, FitsWay}
use Rattle.stage_flow.specs.Passes.{mark_at, SayWhoWants}
use Rattle.stage_flow.specs.Mending.{AreRightOutside}
use Rattle.stage_flow.specs.Beginning.{AreAtMost, AreOthers}
use Rattle.stage_flow.proofs.Walks.{test-no_better, reach-same}
use Rattle.stage_flow.proofs.Labels.{IsLow, wanting-low}
use Rattle.stage_flow.proofs.NetworkEnds.{IsPinLow, network-pins_low}
use Rattle.stage_flow.proofs.ProgressNetworks.{ends-among}
use Rattle.stage_flow.proofs.Round.{ways-low}
use Rattle.stage_flow.proofs.Slacks.{raised, raised-fits}
use Rattle.stage_flow.proofs.Wanting.{no_way_leaves_wanting}

-- ---- Lists that grow by one
-- The first numbers are those of a function, and so is one more.
pub numbers-on : (most : ℕ → ℤ) (before after : List ℤ) (n : ℕ) (number : ℤ) → after ≡ before ++ number ∷ [] → length before ≡ n → number ≡ most n → ((v : ℕ) → v < n → at_vertex before v ≡ most v) → (v : ℕ) → v < n + 1 → at_vertex after v ≡ most v
numbers-on most before after n number is long own done v within =
    ⊎_elim {C = at_vertex after v ≡ most v}
    (λ less. ap (λ xs. at_vertex xs v) is ∙ get_or_append_left before (number ∷ []) (pos 0) v (omega (arith, less, long)) ∙ done v less)
    (λ past.
    let same : n ≡ v = omega (arith, past, within) in
    ap (λ xs. at_vertex xs v) is ∙ get_or_push before number (pos 0) v (long ∙ same) ∙ own ∙ ap most same)
    (cases_lt v n)

-- The first marked vertices are listed, and so is one more, if it is marked.
pub marked-on : (marks : List Bool) (vertices : List ℕ) (n : ℕ) → ((v : ℕ) → v < n → mark_at marks v ≡ true → Contains vertices v) → (v : ℕ) → v < n + 1 → mark_at marks v ≡ true → Contains (vertices ++ n ∷ []) v
marked-on marks vertices n done v within is =
    ⊎_elim {C = Contains (vertices ++ n ∷ []) v}
    (λ less. Contains-append_left vertices (n ∷ []) v (done v less is))
    (λ past. let same : n ≡ v = omega (arith, past, within) in subst (Contains (vertices ++ n ∷ [])) same (Contains-push vertices n))
    (cases_lt v n)

pub unmarked-on : (marks : List Bool) (vertices : List ℕ) (n : ℕ) → mark_at marks n ≡ false → ((v : ℕ) → v < n → mark_at marks v ≡ true → Contains vertices v) → (v : ℕ) → v < n + 1 → mark_at marks v ≡ true → Contains vertices v
unmarked-on marks vertices n none done v within is =
    ⊎_elim {C = Contains vertices v}
    (λ less. done v less is)
    (λ past. let same : v ≡ n = omega (arith, past, within) in absurd (true≢false (sym is ∙ ap (mark_at marks) same ∙ none)))
    (cases_lt v n)

-- ---- What labels are to begin with
module _ (net : Net) (flow : Flow) (is : IsNetwork net) (marks : List Bool) (each : length marks ≡ vertex_count net) (says : SayWhoWants net flow marks) (potentials : List ℤ) (fit : ArePotentials net flow potentials) where
  low-ways : All (IsLow (vertex_count net)) (ways_of net flow)
  low-ways = ways-low net flow (ends-among net is)

  pins-low : All (IsPinLow net) net.pins
  pins-low = subst (λ (n : Net). All (IsPinLow n) n.pins) (sym is.is) (network-pins_low is.gates is.phases is.formed.formed)

  unwanted : (way : Way) → Contains (ways_of net flow) way → (test : Bool) → is_wanting net flow way.tail ≡ test → is_wanting net flow way.tail ≡ false
  unwanted way there false none = none
  unwanted way there true wants = absurd (All-contains (λ (w : Way). w.tail ≡ way.tail → ⊥) (ways_of net flow) way (no_way_leaves_wanting net flow pins-low way.tail wants) there refl)

  -- No residual arc leaves a marked vertex.
  none-leaves : All (λ way. mark_at marks way.tail ≡ false) (ways_of net flow)
  none-leaves =
      All-weaker (Contains (ways_of net flow)) (λ way. mark_at marks way.tail ≡ false)
      (λ way there.
      let ends = All-contains (IsLow (vertex_count net)) (ways_of net flow) way low-ways there in
      says way.tail ends.0 ∙ unwanted way there (is_wanting net flow way.tail) refl)
      (ways_of net flow) (All-contains_itself (ways_of net flow))

  module _ (far : List ℤ) (hops : List ℕ) (most : AreAtMost marks potentials far hops) where
    abbrev high : ℕ → ℤ
    high = raised (mark_at marks) most.top (at_vertex potentials)

    high-fits : All (FitsWay high) (ways_of net flow)
    high-fits = raised-fits (ways_of net flow) (mark_at marks) most.top (at_vertex potentials) fit.fits none-leaves most.is_top.below

    length-by : (v : ℕ) (wants : Bool) → at_vertex far v ≡ cond wants (pos 0) (most.top -ℤ at_vertex potentials v) → at_vertex far v ≡ most.top -ℤ cond wants most.top (at_vertex potentials v)
    length-by v true own = omega (arith, ints, own)
    length-by v false own = own

    length-at : (v : ℕ) → v < vertex_count net → at_vertex far v ≡ most.top -ℤ high v
    length-at v within = length-by v (mark_at marks v) (most.lengths v (omega (arith, within, each)))

    begun-fits : All (IsFitting (at_vertex far) (count_at hops)) (ways_of net flow)
    begun-fits =
        All-weaker (Contains (ways_of net flow)) (IsFitting (at_vertex far) (count_at hops))
        (λ way there.
        let ends = All-contains (IsLow (vertex_count net)) (ways_of net flow) way low-ways there in
        let rises : FitsWay high way = All-contains (FitsWay high) (ways_of net flow) way high-fits there in
        let tail = length-at way.tail ends.0 in
        let head = length-at way.head ends.1 in
        test-no_better (led_by way (label (at_vertex far) (count_at hops) way.head)) (label (at_vertex far) (count_at hops) way.tail)
        (record { no_longer = omega (arith, ints, rises, tail, head); no_fewer = λ same. omega (arith, most.arcs way.tail) }))
        (ways_of net flow) (All-contains_itself (ways_of net flow))

    held-by : (v : ℕ) (wants : Bool) → at_vertex far v ≡ cond wants (pos 0) (most.top -ℤ at_vertex potentials v) → ((pos 0 -ℤ pos (2 ^ 42)) ≤ℤ at_vertex far v) × (at_vertex far v ≤ℤ pos (2 ^ 42))
    held-by v true own = (omega (arith, ints, own), omega (arith, ints, own))
    held-by v false own = (
      omega (arith, ints, own, fit.high v, most.is_top.low),
      omega (arith, ints, own, fit.low v, most.is_top.high),
    )

    pub begun-right : (others : List Bool) → AreOthers marks others → AreRightOutside net flow (at_vertex far) (count_at hops) others
    begun-right others left = record {
      fits = begun-fits;
      nothing = λ v wants.
          let within = wanting-low net flow v wants in
          let low : v < length marks = omega (arith, within, each) in
          let marked : mark_at marks v ≡ true = says v within ∙ wants in
          let none : at_vertex far v ≡ pos 0 = most.lengths v low ∙ ap (λ b. cond b (pos 0) (most.top -ℤ at_vertex potentials v)) marked in (
            reach-same (label (at_vertex far) (count_at hops) v) (record { length = pos 0; hops = 0 }) none (most.arcs v),
            left v low ∙ ap not marked,
          );
      few = λ v within. omega (arith, within, most.arcs v);
      held = λ v within. held-by v (mark_at marks v) (most.lengths v (omega (arith, within, each)));
      sound = λ v within fresh. inl (sym (says v within) ∙ marked-by (mark_at marks v) (sym (left v (omega (arith, within, each))) ∙ fresh));
    }
      where
        marked-by : (b : Bool) → not b ≡ false → b ≡ true
        marked-by true is = refl
        marked-by false is = absurd (true≢false is)
