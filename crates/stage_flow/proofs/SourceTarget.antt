-- Labels from the source, as passes forwards from it come to them: there are such, and what agrees with them at
-- each vertex is such labels too.
use Rattle.std.proofs.Common.{◌≡◌, ◌≢◌, ◌<◌, ◌+◌, ◌∙◌, ℕ, ℤ, zero, suc, pos, ◌+ℤ◌, Bool, true, false, [], map, All, Any, Contains, ap, sym, subst, arith}
use Rattle.std.proofs.lemmas.Int.{ints}
use Rattle.std.proofs.lemmas.Bool.{both_ways}
use Rattle.std.proofs.lemmas.List.Elements.{All-weaker, All-contains, All-contains_itself}
use Rattle.flow_net.specs.declared.net.Net.{Net}
use Rattle.flow_net.specs.declared.net.Flow.{Flow}
use Rattle.flow_net.specs.Uses.{uses_of}
use Rattle.flow_net.specs.Network.{pin_of}
use Rattle.stage_flow.specs.Residual.{Way, ways_of, vertex_count}
use Rattle.stage_flow.specs.Longest.{Reach}
use Rattle.stage_flow.specs.Given.{IsNetwork}
use Rattle.stage_flow.specs.LawsOfWalks.{label}
use Rattle.stage_flow.specs.LawsOfEpochs.{Fits, FitsFlow, IsLastArc, AreLabelsFromSource, LeadsNoFurther}
use Rattle.stage_flow.specs.Passes.{ComesBy, IsTarget}
use Rattle.stage_flow.proofs.Walks.{reach-same}
use Rattle.stage_flow.proofs.Labels.{IsLow}
use Rattle.stage_flow.proofs.Round.{ways-low}
use Rattle.stage_flow.proofs.ProgressNetworks.{ends-among}
use Rattle.stage_flow.proofs.SourceLabelsExist.{source_labels-exist}

-- ---- What agrees with labels
module _ (net : Net) (flow : Flow) (far far' : ℕ → ℤ) (hops hops' : ℕ → ℕ) (is : IsNetwork net) (labels : AreLabelsFromSource net flow far hops)
    (agree : (vertex : ℕ) → vertex < vertex_count net → (far' vertex ≡ far vertex) × (hops' vertex ≡ hops vertex)) where
  far-agrees : (vertex : ℕ) → vertex < vertex_count net → far vertex ≡ far' vertex
  far-agrees vertex within = sym (agree vertex within).0

  hops-agree : (vertex : ℕ) → vertex < vertex_count net → hops vertex ≡ hops' vertex
  hops-agree vertex within = sym (agree vertex within).1

  fits-agreed : (way : Way) → Contains (ways_of net flow) way → Fits far' way
  fits-agreed way there =
      let low = All-contains (IsLow (vertex_count net)) (ways_of net flow) way (ways-low net flow (ends-among net is)) there in
      let own : Fits far way = All-contains (Fits far) (ways_of net flow) way labels.fits there in
      omega (arith, ints, own, far-agrees way.tail low.0, far-agrees way.head low.1)

  comes-agreed : (vertex : ℕ) → suc vertex < vertex_count net → Any (λ way. IsLastArc far' hops' (suc vertex) way × (way.tail < vertex_count net)) (ways_of net flow)
  comes-agreed vertex within =
      let (k, way, inside, here, (own, tail)) = labels.comes vertex within in
      let last : IsLastArc far' hops' (suc vertex) way = record {
        ends = own.ends;
        reaches = sym (far-agrees (suc vertex) within) ∙ own.reaches ∙ ap (λ (z : ℤ). z +ℤ way.length) (far-agrees way.tail tail);
        counts = sym (hops-agree (suc vertex) within) ∙ own.counts ∙ ap (λ (n : ℕ). n + 1) (hops-agree way.tail tail);
      } in
      (k, way, inside, here, (last, tail))

  pub labels-agreed : AreLabelsFromSource net flow far' hops'
  labels-agreed = record {
    origin = sym (far-agrees 0 (omega arith)) ∙ labels.origin;
    starts = sym (hops-agree 0 (omega arith)) ∙ labels.starts;
    fits = All-weaker (Contains (ways_of net flow)) (Fits far') fits-agreed (ways_of net flow) (All-contains_itself (ways_of net flow));
    few = λ vertex within. omega (arith, hops-agree vertex within, labels.few vertex within);
    comes = comes-agreed;
  }

-- ---- What passes come to
-- labels from the source that passes forwards come to
pub record AreTargets (net : Net) (flow : Flow) (starts : ℕ → Bool) : Type 0 where
  pub far : ℕ → ℤ
  pub hops : ℕ → ℕ
  pub labels : AreLabelsFromSource net flow far hops
  pub target : IsTarget net flow starts far hops

module _ (net : Net) (flow : Flow) (far : ℕ → ℤ) (hops : ℕ → ℕ) (starts : ℕ → Bool)
    (begins : starts 0 ≡ true) (others : (vertex : ℕ) → suc vertex < vertex_count net → starts (suc vertex) ≡ false)
    (labels : AreLabelsFromSource net flow far hops) (fits : All (LeadsNoFurther far hops) (ways_of net flow)) where
  nothing-begins : (vertex : ℕ) → vertex < vertex_count net → starts vertex ≡ true → (far vertex ≡ pos 0) × (hops vertex ≡ 0)
  nothing-begins zero within start = (labels.origin, labels.starts)
  nothing-begins (suc vertex) within start = absurd (both_ways (starts (suc vertex)) (others vertex within) start)

  comes-by : (vertex : ℕ) → vertex < vertex_count net → starts vertex ≡ false → Any (ComesBy far hops (vertex_count net) vertex) (ways_of net flow)
  comes-by zero within start = absurd (both_ways (starts 0) start begins)
  comes-by (suc vertex) within start =
      let (k, way, inside, here, (own, tail)) = labels.comes vertex within in
      let on : Reach = record { length = far way.tail +ℤ way.length; hops = suc (hops way.tail) } in
      (k, way, inside, here, (own.ends, tail, reach-same on (label far hops (suc vertex)) (sym own.reaches) (omega (arith, own.counts))))

  pub target-of_labels : IsTarget net flow starts far hops
  target-of_labels = record {
    nothing = nothing-begins;
    fits = fits;
    few = labels.few;
    comes = comes-by;
  }

pub source-targets : (net : Net) (flow : Flow) (potential : ℕ → ℤ) (starts : ℕ → Bool) → IsNetwork net → net.pins ≢ [] → FitsFlow net flow potential → starts 0 ≡ true → ((vertex : ℕ) → suc vertex < vertex_count net → starts (suc vertex) ≡ false)
    → AreTargets net flow starts
source-targets net flow potential starts is some fits begins others =
    let used : uses_of is.gates ≢ [] = λ (none : uses_of is.gates ≡ []). some (ap (λ (m : Net). m.pins) is.is ∙ ap (map (pin_of is.gates is.phases)) none) in
    let (far, hops, labels, least) = source_labels-exist is.gates is.phases flow potential is.formed.formed is.used used (subst (λ (n : Net). FitsFlow n flow potential) is.is fits) in
    let own = subst (λ (n : Net). AreLabelsFromSource n flow far hops) (sym is.is) labels in
    let ways = subst (λ (n : Net). All (LeadsNoFurther far hops) (ways_of n flow)) (sym is.is) least in
    record {
      far = far;
      hops = hops;
      labels = own;
      target = target-of_labels net flow far hops starts begins others own ways;
    }
