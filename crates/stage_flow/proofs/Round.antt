-- A round, given labels: receiver, path, and what one unit along the path does, put together.
use Rattle.std.proofs.Common.{◌≡◌, ◌<◌, ◌+◌, ℕ, zero, suc, ℤ, ◌+ℤ◌, ◌-ℤ◌, Bool, true, false, cond, List, [], ◌∷◌, All, Contains, Some, ap, sym, subst, arith, ⊎_elim}
use Rattle.std.specs.List.{find, range_with_len}
use Rattle.std.proofs.lemmas.Int.{ints}
use Rattle.std.proofs.lemmas.List.Elements.{All-weaker, All-contains, All-contains_itself}
use Rattle.flow_net.specs.declared.net.Net.{Net}
use Rattle.flow_net.specs.declared.net.Flow.{Flow}
use Rattle.flow_net.specs.Arcs.{Arc, arcs_of}
use Rattle.flow_net.specs.Flows.{units_on, out_minus_in}
use Rattle.stage_flow.specs.Residual.{Way, ways_of, vertex_count}
use Rattle.stage_flow.specs.Rounds.{has_to_send, sender, path_of, moved, along, sent_along, after_round}
use Rattle.stage_flow.specs.Longest.{Reach}
use Rattle.stage_flow.specs.LawsOfWalks.{label, led_by, IsFitting, IsTight, EndsAreVertices, TheBestToALayer, TheReceiverIsLeast, TheLastWayIsLeast, HasUnits, FitsWay, potential_by, IsLevel, unit_at, RoundsGoByLabels}
use Rattle.stage_flow.proofs.Walks.{no_better-test}
use Rattle.stage_flow.proofs.Labels.{IsLow}
use Rattle.stage_flow.proofs.Receiver.{best_to-in_layer, receiver-is}
use Rattle.stage_flow.proofs.Path.{last_way-is, path_from-is_tight}
use Rattle.stage_flow.proofs.Along.{way-on, has_units-along, potentials-sent, labels-sent}
use Rattle.stage_flow.proofs.Ends.{units_on-sent, units_on-unsent}
use Rattle.stage_flow.proofs.OutMinusIn.{out_minus_in-sent}

-- The ends of residual arcs are those of arcs.
pub ways-low : (net : Net) (flow : Flow) → EndsAreVertices net → All (IsLow (vertex_count net)) (ways_of net flow)
ways-low net flow low = All-weaker (Contains (ways_of net flow)) (IsLow (vertex_count net)) each (ways_of net flow) (All-contains_itself (ways_of net flow))
  where
    each : (way : Way) → Contains (ways_of net flow) way → IsLow (vertex_count net) way
    each way there =
        let on = way-on net flow way there in
        let ends = All-contains (λ (arc : Arc). (arc.tail < vertex_count net) × (arc.head < vertex_count net)) (arcs_of net) on.arc low on.there in
        ⊎_elim {C = IsLow (vertex_count net) way} (λ adds. subst (IsLow (vertex_count net)) (sym adds) (ends.0, ends.1))
        (λ takes. subst (IsLow (vertex_count net)) (sym takes.0) (ends.1, ends.0)) on.is

-- The potentials that labels are fit, and are level with tight arcs.
pub fits-labelled : (far : ℕ → ℤ) (hops : ℕ → ℕ) (ways : List Way) → All (IsFitting far hops) ways → All (FitsWay (potential_by far)) ways
fits-labelled far hops ways fits =
    All-weaker (IsFitting far hops) (FitsWay (potential_by far))
    (λ way test.
    let less = no_better-test (led_by way (label far hops way.head)) (label far hops way.tail) test in
    omega (arith, ints, less.no_longer))
    ways fits

pub level-tight : (far : ℕ → ℤ) (hops : ℕ → ℕ) (walk : List Way) → All (IsTight far hops) walk → All (IsLevel (potential_by far)) walk
level-tight far hops walk tight =
    All-weaker (IsTight far hops) (IsLevel (potential_by far)) (λ way own. let long = ap (λ (r : Reach). r.length) own in omega (arith, ints, long)) walk tight

-- A sender is a vertex.
find-below : (test : ℕ → Bool) (start count found : ℕ) → find test (range_with_len start count) ≡ Some found → found < start + count
find-below test start zero found is = absurd (cc)
find-below test start (suc count) found is = by (test start) is (find-below test (start + 1) count found)
  where
    by : (own : Bool) → cond own (Some start) (find test (range_with_len (start + 1) count)) ≡ Some found → (find test (range_with_len (start + 1) count) ≡ Some found → found < start + 1 + count) → found < start + suc count
    by true is rest = let same : start ≡ found = cc in omega arith
    by false is rest = omega (arith, rest is)

pub sender-low : (net : Net) (flow : Flow) (from : ℕ) → sender net flow ≡ Some from → from < vertex_count net
sender-low net flow from is = omega (arith, find-below (has_to_send net flow) 0 (vertex_count net) from is)

pub has_units-sent : (net : Net) (path : List Way) (flow : Flow) → HasUnits net flow → HasUnits net (sent_along path flow)
has_units-sent net [] flow units = units
has_units-sent net (way ∷ path) flow units = has_units-sent net path (along way flow) (has_units-along net flow way units)

pub after_round-is : (net : Net) (flow : Flow) (from : ℕ) → sender net flow ≡ Some from → after_round net flow ≡ sent_along (path_of net flow (Some from)) flow
unfolding after_round
after_round-is net flow from is = ap (λ o. sent_along (path_of net flow o) flow) is

pub the_best_to_a_layer : TheBestToALayer
the_best_to_a_layer net flow far hops from steps vertex labels low within layer =
    best_to-in_layer net flow far hops from labels (ways-low net flow low) steps vertex within layer

pub the_receiver_is_least : TheReceiverIsLeast
the_receiver_is_least net flow far hops from labels low = receiver-is net flow far hops from labels (ways-low net flow low)

pub the_last_way_is_least : TheLastWayIsLeast
the_last_way_is_least net flow far hops from steps vertex labels low within layer =
    last_way-is net flow far hops from labels (ways-low net flow low) steps vertex within layer

pub rounds_go_by_labels : RoundsGoByLabels
rounds_go_by_labels net flow far hops from low units labels is =
    let (mirror, served, tight) = path_from-is_tight net flow far hops from labels (ways-low net flow low) in
    let path = path_of net flow (Some from) in
    let after = after_round-is net flow from is in (
      mirror,
      record {
        receives = served;
        path = tight;
        units =
            subst (λ (f : Flow). All (λ way. (arc : Arc) → Contains (arcs_of net) arc → arc.number ≡ way.number → units_on f arc ≡ moved way.takes (units_on flow arc)) path) (sym after)
            (units_on-sent net flow far hops from mirror path units tight);
        others = λ arc there none.
            subst (λ (f : Flow). units_on f arc ≡ units_on flow arc) (sym after) (units_on-unsent net flow path arc units there none);
        ends = λ vertex.
            subst (λ (f : Flow). out_minus_in net f vertex ≡ (out_minus_in net flow vertex +ℤ unit_at from vertex) -ℤ unit_at mirror vertex) (sym after)
            (out_minus_in-sent net flow far hops from mirror path vertex units tight);
        fits =
            subst (λ (f : Flow). All (FitsWay (potential_by far)) (ways_of net f)) (sym after)
            (potentials-sent net flow (potential_by far) from mirror path units (fits-labelled far hops (ways_of net flow) labels.fits) tight.goes (level-tight far hops path tight.tight));
        labels = subst (λ (f : Flow). All (IsFitting far hops) (ways_of net f)) (sym after) (labels-sent net flow far hops from mirror path units labels.fits tight);
        each = subst (HasUnits net) (sym after) (has_units-sent net path flow units);
      },
    )
