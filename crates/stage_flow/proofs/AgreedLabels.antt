-- What agrees with labels at each vertex is labels.
use Rattle.std.proofs.Common.{◌≡◌, ◌<◌, ◌∙◌, ℕ, ℤ, false, List, All, Contains, ap, sym, subst}
use Rattle.std.proofs.lemmas.List.Elements.{All-weaker, All-contains, All-contains_itself}
use Rattle.flow_net.specs.declared.net.Net.{Net}
use Rattle.flow_net.specs.declared.net.Flow.{Flow}
use Rattle.stage_flow.specs.Residual.{ways_of, vertex_count}
use Rattle.stage_flow.specs.Longest.{Reach, is_better}
use Rattle.stage_flow.specs.Given.{IsNetwork, at_vertex, count_at}
use Rattle.stage_flow.specs.LawsOfWalks.{led_by, label, IsFitting, AreLabels}
use Rattle.stage_flow.proofs.Walks.{reach-same}
use Rattle.stage_flow.proofs.Labels.{IsLow, wanting-low}
use Rattle.stage_flow.proofs.Round.{ways-low}
use Rattle.stage_flow.proofs.ProgressNetworks.{ends-among}

module _ (net : Net) (flow : Flow) (far : ℕ → ℤ) (hops : ℕ → ℕ) (is : IsNetwork net) (labels : AreLabels net flow far hops) where
  low-ways : All (IsLow (vertex_count net)) (ways_of net flow)
  low-ways = ways-low net flow (ends-among net is)

  pub labels-agree : (fars : List ℤ) (counts : List ℕ) → ((vertex : ℕ) → vertex < vertex_count net → (at_vertex fars vertex ≡ far vertex) × (count_at counts vertex ≡ hops vertex)) → AreLabels net flow (at_vertex fars) (count_at counts)
  labels-agree fars counts agree = record {
    fits =
        All-weaker (Contains (ways_of net flow)) (IsFitting (at_vertex fars) (count_at counts))
        (λ way there.
        let ends = All-contains (IsLow (vertex_count net)) (ways_of net flow) way low-ways there in
        subst (λ (r : Reach). is_better (led_by way r) (label (at_vertex fars) (count_at counts) way.tail) ≡ false) (sym (same way.head ends.1))
        (subst (λ (r : Reach). is_better (led_by way (label far hops way.head)) r ≡ false) (sym (same way.tail ends.0))
        (All-contains (IsFitting far hops) (ways_of net flow) way labels.fits there)))
        (ways_of net flow) (All-contains_itself (ways_of net flow));
    nothing = λ vertex wants. same vertex (wanting-low net flow vertex wants) ∙ labels.nothing vertex wants;
    onward = λ vertex low none.
        let (k, way, within, there, (begins, tight)) = labels.onward vertex low none in
        let ends = All-contains (IsLow (vertex_count net)) (ways_of net flow) way low-ways (k, within, there) in
        (k, way, within, there, (begins, ap (led_by way) (same way.head ends.1) ∙ tight ∙ sym (same way.tail ends.0)));
  }
    where
      same : (vertex : ℕ) → vertex < vertex_count net → label (at_vertex fars) (count_at counts) vertex ≡ label far hops vertex
      same vertex low = let own = agree vertex low in reach-same (label (at_vertex fars) (count_at counts) vertex) (label far hops vertex) own.0 own.1
