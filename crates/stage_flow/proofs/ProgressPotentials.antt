-- Potentials that fit: each vertex' own number before the first round, and how far it is by the labels, negated, after a round. A
-- label is no farther than its number of arcs, and that is below the number of vertices.
use Rattle.std.proofs.Common.{◌≡◌, ◌<◌, ◌≤◌, ◌+◌, ◌*◌, ◌^◌, ◌∙◌, inl, ℕ, zero, suc, ℤ, pos, negsuc, ◌+ℤ◌, ◌-ℤ◌, ◌≤ℤ◌, true, List, [], ◌∷◌, length, get_or, map, All, refl, ap, arith, ⊎_elim}
use Rattle.std.proofs.lemmas.Bool.{cases_lt}
use Rattle.std.proofs.lemmas.Int.{ints}
use Rattle.std.proofs.lemmas.List.{get_or_past, length-map}
use Rattle.std.proofs.lemmas.List.Elements.{All-contains, All-weaker}
use Rattle.flow_net.specs.declared.net.Pin.{Pin}
use Rattle.flow_net.specs.declared.net.Net.{Net}
use Rattle.flow_net.specs.declared.net.Flow.{Flow}
use Rattle.flow_net.specs.Arcs.{forward_arc, back_arc, arcs_of}
use Rattle.flow_net.proofs.CallerLemmas.{All-arcs_from}
use Rattle.stage_flow.specs.Longest.{Reach}
use Rattle.stage_flow.specs.Residual.{Way, ways_of, vertex_count}
use Rattle.stage_flow.specs.Rounds.{no_units, is_wanting, after_round}
use Rattle.stage_flow.specs.Given.{IsNetwork, ArePotentials, at_vertex}
use Rattle.stage_flow.specs.LawsOfWalks.{IsTight, AreLabels, IsTightWalk, FitsWay, potential_by, IsRound}
use Rattle.stage_flow.specs.LawsOfEpochs.{Fits}
use Rattle.stage_flow.specs.UnderWay.{first_potential}
use Rattle.stage_flow.proofs.Labels.{each_is_served, hops-below, tight_walk-tail, tight-nearer}
use Rattle.stage_flow.proofs.Round.{ways-low}
use Rattle.stage_flow.proofs.Linked.{IsUpward}
use Rattle.stage_flow.proofs.Sent.{nothing_on}
use Rattle.stage_flow.proofs.ResidualArcs.{IsMet, ways-met}
use Rattle.stage_flow.proofs.ProgressNetworks.{vertices-few, upward, light, ends-among, ways-short}

-- ---- Labels
-- a number from minus to plus a bound
abbrev pub IsWithin : ℕ → ℤ → Type 0
IsWithin bound z = ((pos 0 -ℤ pos bound) ≤ℤ z) × (z ≤ℤ pos bound)

-- Along tight arcs a label is no farther than its arcs are many.
module _ (net : Net) (flow : Flow) (far : ℕ → ℤ) (hops : ℕ → ℕ) (is : IsNetwork net) (labels : AreLabels net flow far hops) where
  tight-within : (from to : ℕ) (walk : List Way) → IsTightWalk far hops (ways_of net flow) from to walk → is_wanting net flow to ≡ true → IsWithin (hops from) (far from)
  tight-within from to [] tight wants =
      let here : from ≡ to = tight.goes in
      let nothing = labels.nothing to wants in
      let length : far to ≡ pos 0 = ap (λ (r : Reach). r.length) nothing in
      let arcs : hops to ≡ 0 = ap (λ (r : Reach). r.hops) nothing in
      let a : far from ≡ far to = ap far here in
      let b : hops from ≡ hops to = ap hops here in
      (omega (arith, ints, length, arcs, a, b), omega (arith, ints, length, arcs, a, b))
  tight-within from to (way ∷ walk) tight wants =
      let (there, begins, goes) = tight.goes in
      let own : IsTight far hops way = tight.tight 0 way (omega arith) in
      let rest = tight-within way.head to walk (tight_walk-tail far hops (ways_of net flow) from to way walk tight) wants in
      let short = All-contains (λ (w : Way). (w.length ≤ℤ pos 1) × (negsuc 0 ≤ℤ w.length)) (ways_of net flow) way (ways-short net flow is) there in
      let length : (way.length +ℤ far way.head) ≡ far way.tail = ap (λ (r : Reach). r.length) own in
      let arcs : hops way.tail ≡ hops way.head + 1 = tight-nearer far hops way own in
      let a : far way.tail ≡ far from = ap far begins in
      let b : hops way.tail ≡ hops from = ap hops begins in
      (omega (arith, ints, length, arcs, a, b, rest.0, rest.1, short.0, short.1), omega (arith, ints, length, arcs, a, b, rest.0, rest.1, short.0, short.1))

  pub far-within : (vertex : ℕ) → vertex < vertex_count net → IsWithin (2 ^ 32) (far vertex)
  far-within vertex low =
      let ends = ways-low net flow (ends-among net is) in
      let served = each_is_served net flow far hops labels ends vertex low in
      let near = tight-within vertex served.mirror served.walk served.tight served.wants in
      let few = hops-below net flow far hops labels ends vertex low in
      let all = vertices-few net is in
      (omega (arith, ints, near.0, few, all), omega (arith, ints, near.1, few, all))

-- ---- After a round
pub negated-at : (numbers : List ℤ) (vertex : ℕ) → at_vertex (map (λ (z : ℤ). pos 0 -ℤ z) numbers) vertex ≡ pos 0 -ℤ at_vertex numbers vertex
negated-at [] vertex = refl
negated-at (z ∷ zs) zero = refl
negated-at (z ∷ zs) (suc vertex) = negated-at zs vertex

-- Numbers that fit, and are within bounds at vertices, are potentials once they are negated.
pub negated-fit : (net : Net) (flow : Flow) (far : List ℤ) → length far ≡ vertex_count net → All (FitsWay (potential_by (at_vertex far))) (ways_of net flow) → ((vertex : ℕ) → vertex < vertex_count net → IsWithin (2 ^ 32) (at_vertex far vertex))
    → ArePotentials net flow (map (λ (z : ℤ). pos 0 -ℤ z) far)
negated-fit net flow far each fits within = record {
  each = length-map far (λ (z : ℤ). pos 0 -ℤ z) ∙ each;
  low = λ vertex. omega (arith, ints, negated-at far vertex, (near vertex).1);
  high = λ vertex. omega (arith, ints, negated-at far vertex, (near vertex).0);
  fits =
      All-weaker (FitsWay (potential_by (at_vertex far))) (Fits (at_vertex (map (λ (z : ℤ). pos 0 -ℤ z) far)))
      (λ way fits. omega (arith, ints, fits, negated-at far way.tail, negated-at far way.head))
      (ways_of net flow) fits;
}
  where
    near : (vertex : ℕ) → IsWithin (2 ^ 32) (at_vertex far vertex)
    near vertex =
        ⊎_elim {C = IsWithin (2 ^ 32) (at_vertex far vertex)} (within vertex)
        (λ (past : vertex_count net ≤ vertex). let none = get_or_past far vertex (pos 0) (omega (arith, each)) in (omega (arith, ints, none), omega (arith, ints, none)))
        (cases_lt vertex (vertex_count net))

-- So the labels, negated, are potentials of the flow after the round.
pub labels-negated : (net : Net) (flow : Flow) (far : List ℤ) (hops : ℕ → ℕ) (from mirror : ℕ) → IsNetwork net → AreLabels net flow (at_vertex far) hops → length far ≡ vertex_count net → IsRound net flow (at_vertex far) hops from mirror
    → ArePotentials net (after_round net flow) (map (λ (z : ℤ). pos 0 -ℤ z) far)
labels-negated net flow far hops from mirror is labels each round =
    negated-fit net (after_round net flow) far each round.fits (far-within net flow (at_vertex far) hops is labels)

-- ---- Before the first round
module _ (net : Net) (potentials : List ℤ) (is : IsNetwork net) (each : length potentials ≡ vertex_count net) (own : (vertex : ℕ) → vertex < vertex_count net → at_vertex potentials vertex ≡ first_potential net vertex) where
  abbrev p : ℕ → ℤ
  p = at_vertex potentials

  arcs-met : (pin : Pin) (at : ℕ) → IsUpward net pin → pin.weight ≤ 1 → IsMet (no_units net) p (forward_arc at pin) × IsMet (no_units net) p (back_arc net at pin)
  arcs-met pin at up short =
      let from = own pin.from (omega (arith, up.upward, up.laid.ends)) in
      let to = own pin.to (omega (arith, up.laid.ends)) in
      let mirror = own (net.gates + 2 + pin.driver) (omega (arith, up.laid.numbered)) in (
        record { rises = omega (arith, ints, from, to, up.upward, up.laid.ends); tight = inl (nothing_on (length net.pins) (2 * at)) },
        record { rises = omega (arith, ints, to, mirror); tight = inl (nothing_on (length net.pins) (2 * at + 1)) },
      )

  pub first-potentials : ArePotentials net (no_units net) potentials
  first-potentials = record {
    each = each;
    low = λ vertex. (near vertex).0;
    high = λ vertex. (near vertex).1;
    fits =
        ways-met (no_units net) p (arcs_of net)
        (All-arcs_from (IsMet (no_units net) p) net 0 net.pins
        (λ k d within at. arcs-met (get_or net.pins k d) at (upward net is k d within) (light net is k d within)));
  }
    where
      near : (vertex : ℕ) → IsWithin (2 ^ 40) (p vertex)
      near vertex =
          ⊎_elim {C = IsWithin (2 ^ 40) (p vertex)}
          (λ (low : vertex < vertex_count net). let here = own vertex low in let few = vertices-few net is in (omega (arith, ints, here), omega (arith, ints, here, few)))
          (λ (past : vertex_count net ≤ vertex). let none = get_or_past potentials vertex (pos 0) (omega (arith, each)) in (omega (arith, ints, none), omega (arith, ints, none)))
          (cases_lt vertex (vertex_count net))
