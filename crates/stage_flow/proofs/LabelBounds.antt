-- Labels are determined, and small. By a tight walk to a wanting mirror a vertex's label in one labelling is attained, and in
-- another nothing is better than its label; so it is one label. Its walk has no arc longer than 1, so the length is within the
-- number of arcs, which is below the number of vertices.
use Rattle.std.proofs.Common.{◌≡◌, ◌<◌, ◌≤◌, ◌∙◌, ℕ, ℤ, pos, negsuc, ◌-ℤ◌, ◌≤ℤ◌, List, [], ◌∷◌, length, All, Contains, ap, sym, subst, arith, ⊎_elim}
use Rattle.std.proofs.lemmas.Int.{ints}
use Rattle.std.proofs.lemmas.List.Elements.{All-weaker, All-contains, All-contains_itself}
use Rattle.flow_net.specs.declared.net.Pin.{Pin}
use Rattle.flow_net.specs.declared.net.Net.{Net}
use Rattle.flow_net.specs.declared.net.Flow.{Flow}
use Rattle.flow_net.specs.Arcs.{Arc, forward_arc, back_arc, arcs_of}
use Rattle.flow_net.proofs.CallerLemmas.{All-arcs_from}
use Rattle.stage_flow.specs.Residual.{Way, ways_of, vertex_count}
use Rattle.stage_flow.specs.Longest.{Reach}
use Rattle.stage_flow.specs.LawsOfWalks.{IsWalk, reach_of, label, AreLabels, EndsAreVertices, LabelsAreDetermined, LabelsAreBest}
use Rattle.stage_flow.proofs.Walks.{IsNoBetter, test-no_better, both, reach-same, reach-tied}
use Rattle.stage_flow.proofs.Labels.{walk-fits, same-from_tight, each_is_served, hops-below, tight_walk-nearer, tight_walk-short, wanting-low}
use Rattle.stage_flow.proofs.Along.{way-on}
use Rattle.stage_flow.proofs.Round.{ways-low}

-- A label is no better than another labelling's.
label-less : (net : Net) (flow : Flow) (far far' : ℕ → ℤ) (hops hops' : ℕ → ℕ) → EndsAreVertices net → AreLabels net flow far hops → AreLabels net flow far' hops' → (v : ℕ) → v < vertex_count net → IsNoBetter (label far hops v) (label far' hops' v)
label-less net flow far far' hops hops' low labels others v within =
    let ways = ways_of net flow in
    let served = each_is_served net flow far hops labels (ways-low net flow low) v within in
    let own = same-from_tight far hops ways v served.mirror served.walk served.tight.goes served.tight.tight in
    let most = walk-fits far' hops' ways others.fits v served.mirror served.walk served.tight.goes in
    let ends : label far' hops' served.mirror ≡ label far hops served.mirror =
    others.nothing served.mirror served.wants ∙ sym (labels.nothing served.mirror served.wants) in
    let whole : both (reach_of served.walk) (label far' hops' served.mirror) ≡ label far hops v =
    ap (both (reach_of served.walk)) ends ∙ own in
    subst (λ (r : Reach). IsNoBetter r (label far' hops' v)) whole most

pub labels_are_determined : LabelsAreDetermined
labels_are_determined net flow far far' hops hops' low labels others v within =
    reach-tied (label far hops v) (label far' hops' v) (label-less net flow far far' hops hops' low labels others v within)
    (label-less net flow far' far hops' hops low others labels v within)

-- ---- They are the best
to_mirror : (reach : Reach) → both reach (record { length = pos 0; hops = 0 }) ≡ reach
to_mirror reach = reach-same (both reach (record { length = pos 0; hops = 0 })) reach (omega (arith, ints)) (omega arith)

pub labels_are_best : LabelsAreBest
labels_are_best net flow far hops low labels v within =
    let ways = ways_of net flow in
    let inside = ways-low net flow low in
    let served = each_is_served net flow far hops labels inside v within in
    let own = same-from_tight far hops ways v served.mirror served.walk served.tight.goes served.tight.tight in record {
      none_better = λ mirror walk wants goes.
          let most = walk-fits far hops ways labels.fits v mirror walk goes in
          let whole : both (reach_of walk) (label far hops mirror) ≡ reach_of walk = ap (both (reach_of walk)) (labels.nothing mirror wants) ∙ to_mirror (reach_of walk) in
          test-no_better (reach_of walk) (label far hops v) (subst (λ (r : Reach). IsNoBetter r (label far hops v)) whole most);
      mirror = served.mirror;
      wants = served.wants;
      walk = served.walk;
      goes = served.tight.goes;
      few = tight_walk-short far hops (vertex_count net) ways v served.mirror served.walk inside (wanting-low net flow served.mirror served.wants) served.tight;
      as_good =
          sym (to_mirror (reach_of served.walk))
          ∙ ap (both (reach_of served.walk)) (sym (labels.nothing served.mirror served.wants))
          ∙ own;
    }

-- ---- How great they are
-- an arc's length is -1, 0 or 1
abbrev pub IsShort : ℤ → Type 0
IsShort length = (negsuc 0 ≤ℤ length) × (length ≤ℤ pos 1)

pub ways-short : (net : Net) (flow : Flow) → All (λ pin. pin.weight ≤ 1) net.pins → All (λ way. IsShort way.length) (ways_of net flow)
ways-short net flow light =
    All-weaker (Contains (ways_of net flow)) (λ way. IsShort way.length) each (ways_of net flow) (All-contains_itself (ways_of net flow))
  where
    arc_short : (pin : Pin) → pin.weight ≤ 1 → (at : ℕ) → IsShort (forward_arc at pin).length × IsShort (back_arc net at pin).length
    arc_short pin h at = ((omega (arith, ints), omega (arith, ints)), (omega (arith, ints), omega (arith, ints)))

    arcs_short : All (λ arc. IsShort arc.length) (arcs_of net)
    arcs_short = All-arcs_from (λ arc. IsShort arc.length) net 0 net.pins (All-weaker (λ pin. pin.weight ≤ 1) (λ pin. (at : ℕ) → IsShort (forward_arc at pin).length × IsShort (back_arc net at pin).length) arc_short net.pins light)

    each : (way : Way) → Contains (ways_of net flow) way → IsShort way.length
    each way there =
        let on = way-on net flow way there in
        let short = All-contains (λ (arc : Arc). IsShort arc.length) (arcs_of net) on.arc arcs_short on.there in
        ⊎_elim {C = IsShort way.length} (λ adds. subst (λ (w : Way). IsShort w.length) (sym adds) short)
        (λ takes. subst (λ (w : Way). IsShort w.length) (sym takes.0) (omega (arith, ints, short.0, short.1), omega (arith, ints, short.0, short.1))) on.is

walk-short : (ways : List Way) (from to : ℕ) (walk : List Way) → All (λ way. IsShort way.length) ways → IsWalk ways from to walk → ((reach_of walk).length ≤ℤ pos (length walk)) × ((pos 0 -ℤ pos (length walk)) ≤ℤ (reach_of walk).length)
walk-short ways from to [] short here = (omega (arith, ints), omega (arith, ints))
walk-short ways from to (way ∷ walk) short (there, begins, goes) =
    let own = All-contains (λ (w : Way). IsShort w.length) ways way short there in
    let rest = walk-short ways way.head to walk short goes in
    (omega (arith, ints, own.0, own.1, rest.0, rest.1), omega (arith, ints, own.0, own.1, rest.0, rest.1))

-- A label's length is within its arcs, so the potentials that labels are have fewer than the vertices either way.
pub far-within_hops : (net : Net) (flow : Flow) (far : ℕ → ℤ) (hops : ℕ → ℕ) → EndsAreVertices net → All (λ pin. pin.weight ≤ 1) net.pins → AreLabels net flow far hops → (v : ℕ) → v < vertex_count net → (far v ≤ℤ pos (hops v)) × ((pos 0 -ℤ pos (hops v)) ≤ℤ far v) × (hops v < vertex_count net)
far-within_hops net flow far hops low light labels v within =
    let ways = ways_of net flow in
    let served = each_is_served net flow far hops labels (ways-low net flow low) v within in
    let own = same-from_tight far hops ways v served.mirror served.walk served.tight.goes served.tight.tight in
    let nothing = labels.nothing served.mirror served.wants in
    let short = walk-short ways v served.mirror served.walk (ways-short net flow light) served.tight.goes in
    let many = tight_walk-nearer far hops ways v served.mirror served.walk served.tight in
    let long = ap (λ (r : Reach). r.length) own in
    let none = ap (λ (r : Reach). r.length) nothing in
    let last = ap (λ (r : Reach). r.hops) nothing in (
      omega (arith, ints, short.0, short.1, many, long, none, last),
      omega (arith, ints, short.0, short.1, many, long, none, last),
      hops-below net flow far hops labels (ways-low net flow low) v within,
    )
