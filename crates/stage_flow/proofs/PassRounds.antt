-- All passes: after so many, the labels with no more hops are the target's. Such a label comes by an arc from one with a hop
-- fewer, which stood before the pass, so the pass brings it.
use Rattle.std.proofs.Common.{◌≡◌, ◌<◌, ◌≤◌, ◌+◌, ◌∙◌, inl, inr, ℕ, zero, suc, ℤ, pos, negsuc, ◌-ℤ◌, ◌≤ℤ◌, Bool, true, false, cond, List, length, get_or, All, refl, sym, ap, subst, arith, ⊎_elim}
use Rattle.std.proofs.lemmas.Int.{ints}
use Rattle.std.proofs.lemmas.Bool.{cases_lt}
use Rattle.std.proofs.lemmas.List.Elements.{All-contains}
use Rattle.flow_net.specs.declared.net.Pin.{Pin}
use Rattle.flow_net.specs.declared.net.Net.{Net}
use Rattle.flow_net.specs.declared.net.Flow.{Flow}
use Rattle.flow_net.specs.Arcs.{mirror_of}
use Rattle.stage_flow.specs.Residual.{Way, ways_of, vertex_count}
use Rattle.stage_flow.specs.Longest.{Reach, is_better}
use Rattle.stage_flow.specs.LawsOfWalks.{label}
use Rattle.stage_flow.specs.Given.{IsNetwork, at_vertex, count_at}
use Rattle.stage_flow.specs.Search.{way_by, no_pin, none_on, HoldsBelow, HoldsOfOne}
use Rattle.stage_flow.specs.Passes.{mark_at, least, standing, IsHeld, OffersNoBetter, IsTarget, AreUnder, Nears, Brings, HaveCome}
use Rattle.stage_flow.proofs.SearchTests.{somewhere-any, holds-of_all}
use Rattle.stage_flow.proofs.Walks.{test-no_better, reach-same}
use Rattle.stage_flow.proofs.ProgressNetworks.{vertices-few, ways-short}
use Rattle.stage_flow.proofs.ProgressPotentials.{IsWithin}

-- What holds of all residual arcs holds at each pin.
pub all-holds : (Q : ℕ → ℕ → ℤ → Type 0) (net : Net) (flow : Flow) → length flow.pins ≡ length net.pins → All (λ way. Q way.tail way.head way.length) (ways_of net flow) → HoldsBelow (λ way. Q way.tail way.head way.length) net flow (length net.pins)
all-holds Q net flow long all place low = record {
  forward = at pin.from pin.to (pos pin.weight) (inl (refl, refl, refl));
  taken = λ some. at pin.to pin.from (pos 0 -ℤ pos pin.weight) (inr (inl (some, (refl, refl, refl))));
  back = at pin.to mirror (pos 0 -ℤ pos pin.weight) (inr (inr (inl (refl, refl, refl))));
  returned = λ some. at mirror pin.to (pos 0 -ℤ (pos 0 -ℤ pos pin.weight)) (inr (inr (inr (some, (refl, refl, refl)))));
}
  where
    pin : Pin
    pin = get_or net.pins place no_pin

    mirror : ℕ
    mirror = mirror_of net pin.driver

    at : (tail head : ℕ) (span : ℤ) → HoldsOfOne (λ way. (way.tail ≡ tail) × (way.head ≡ head) × (way.length ≡ span)) mirror pin (get_or flow.pins place none_on) → Q tail head span
    at tail head span one =
        let (k, way, within, is, (tail_is, head_is, span_is)) = somewhere-any (λ t h l. (t ≡ tail) × (h ≡ head) × (l ≡ span)) net flow long (place, low, one) in
        subst (λ t. Q t head span) tail_is
        (subst (λ h. Q way.tail h span) head_is
        (subst (λ l. Q way.tail way.head l) span_is
        (All-contains (λ (w : Way). Q w.tail w.head w.length) (ways_of net flow) way all (k, within, is))))

module _ (net : Net) (flow : Flow) (starts : ℕ → Bool) (far : ℕ → ℤ) (hops : ℕ → ℕ) (is : IsNetwork net) (long : length flow.pins ≡ length net.pins) (target : IsTarget net flow starts far hops) where
  -- A target's label is no farther than its hops are many, since no arc is longer than 1; so numbers can hold it.
  near-at : (count vertex : ℕ) (test : Bool) → starts vertex ≡ test → vertex < vertex_count net → hops vertex ≡ count → ((before : ℕ) → before < vertex_count net → hops before + 1 ≡ count → IsWithin (hops before) (far before)) → IsWithin count (far vertex)
  near-at count vertex true start low many next = let none = target.nothing vertex low start in (omega (arith, ints, none.0), omega (arith, ints, none.0))
  near-at count vertex false start low many next =
      let (k, way, within, there, (ends, from, tight)) = target.comes vertex low start in
      let span = ap (λ (r : Reach). r.length) tight in
      let fewer = ap (λ (r : Reach). r.hops) tight in
      let rest = next way.tail from (omega (arith, fewer, many)) in
      let short = All-contains (λ (w : Way). (w.length ≤ℤ pos 1) × (negsuc 0 ≤ℤ w.length)) (ways_of net flow) way (ways-short net flow is) (k, within, there) in
      (omega (arith, ints, rest.0, rest.1, short.0, short.1, span, fewer, many), omega (arith, ints, rest.0, rest.1, short.0, short.1, span, fewer, many))

  near : (count vertex : ℕ) → vertex < vertex_count net → hops vertex ≡ count → IsWithin count (far vertex)
  near zero vertex low many = near-at 0 vertex (starts vertex) refl low many (λ before within more. absurd (omega (arith, more)))
  near (suc count) vertex low many =
      near-at (suc count) vertex (starts vertex) refl low many
      (λ before within more.
      let same : hops before ≡ count = omega (arith, more) in
      subst (λ n. IsWithin n (far before)) (sym same) (near count before within same))

  held : (vertex : ℕ) → vertex < vertex_count net → IsHeld (label far hops vertex)
  held vertex low =
      let own = near (hops vertex) vertex low refl in
      let few = target.few vertex low in
      let all = vertices-few net is in
      record { low = omega (arith, ints, own.0, few, all); high = omega (arith, ints, own.1, few, all); few = omega (arith, few, all) }

  -- One pass.
  pub come-on : (passes : ℕ) (now after : List ℤ) (counts afters : List ℕ) → length now ≡ vertex_count net → length after ≡ length now
      → (HoldsBelow (OffersNoBetter far hops) net flow (length net.pins) → AreUnder far hops now counts → Nears far hops now counts after afters × HoldsBelow (Brings far hops now counts after afters) net flow (length net.pins))
      → HaveCome far hops passes now counts → HaveCome far hops (passes + 1) after afters
  come-on passes now after counts afters many sized pass come = record {
    under = done.0.under;
    stand = λ vertex low few.
        ⊎_elim {C = standing after afters vertex ≡ label far hops vertex}
        (λ less. done.0.stays vertex low (come.stand vertex (omega (arith, low, sized)) (omega (arith, less))))
        (λ no_less. by vertex low few (starts vertex) refl no_less)
        (cases_lt (hops vertex) (passes + 1));
  }
    where
      done : Nears far hops now counts after afters × HoldsBelow (Brings far hops now counts after afters) net flow (length net.pins)
      done = pass (all-holds (λ tail head span. OffersNoBetter far hops (way_by tail head span)) net flow long target.fits) come.under

      brings : All (λ way. Brings far hops now counts after afters way) (ways_of net flow)
      brings = holds-of_all (λ tail head span. Brings far hops now counts after afters (way_by tail head span)) net flow long done.1

      by : (vertex : ℕ) → vertex < length after → hops vertex ≤ passes + 1 → (test : Bool) → starts vertex ≡ test → passes + 1 ≤ hops vertex → standing after afters vertex ≡ label far hops vertex
      by vertex low few true start more =
          let nothing = target.nothing vertex (omega (arith, low, sized, many)) start in
          absurd (omega (arith, nothing.1, more))
      by vertex low few false start more =
          let (k, way, within, is, (there, from, tight)) = target.comes vertex (omega (arith, low, sized, many)) start in
          let own = All-contains (λ (w : Way). Brings far hops now counts after afters w) (ways_of net flow) way brings (k, within, is) in
          let fewer = ap (λ (r : Reach). r.hops) tight in
          let same = come.stand way.tail (omega (arith, from, many)) (omega (arith, fewer, few)) in
          subst (λ v. standing after afters v ≡ label far hops v) there
          (own (subst (λ v. v < length after) (sym there) low) (omega (arith, from, many, sized))
          (held way.head (subst (λ v. v < vertex_count net) (sym there) (omega (arith, low, sized, many))))
          (tight ∙ ap (label far hops) (sym there)) same)

  -- Before the first.
  pub come-first : (marks : List Bool) (now : List ℤ) (counts : List ℕ) → starts ≡ mark_at marks → length marks ≡ vertex_count net → length now ≡ length marks
      → ((vertex : ℕ) → vertex < length marks → at_vertex now vertex ≡ cond (mark_at marks vertex) (pos 0) least)
      → ((vertex : ℕ) → vertex < length marks → mark_at marks vertex ≡ true → count_at counts vertex ≡ 0)
      → HaveCome far hops 0 now counts
  come-first marks now counts marked many sized own own' = record {
    under = λ vertex low. at vertex (omega (arith, low, sized, many)) (mark_at marks vertex) refl;
    stand = λ vertex low none. standing-first vertex (omega (arith, low, sized, many)) none (mark_at marks vertex) refl;
  }
    where
      start : (vertex : ℕ) (test : Bool) → mark_at marks vertex ≡ test → starts vertex ≡ test
      start vertex test is = ap (λ (f : ℕ → Bool). f vertex) marked ∙ is

      nothing : (vertex : ℕ) → vertex < vertex_count net → mark_at marks vertex ≡ true → standing now counts vertex ≡ label far hops vertex
      nothing vertex low is =
          let none = target.nothing vertex low (start vertex true is) in
          let zero_far = own vertex (omega (arith, low, many)) ∙ ap (λ t. cond t (pos 0) least) is in
          let zero_hops = own' vertex (omega (arith, low, many)) is in
          reach-same (standing now counts vertex) (label far hops vertex) (zero_far ∙ sym none.0) (zero_hops ∙ sym none.1)

      at : (vertex : ℕ) → vertex < vertex_count net → (test : Bool) → mark_at marks vertex ≡ test → is_better (standing now counts vertex) (label far hops vertex) ≡ false
      at vertex low true is =
          let same = nothing vertex low is in
          let far_same = ap (λ (r : Reach). r.length) same in
          let hops_same = ap (λ (r : Reach). r.hops) same in
          test-no_better (standing now counts vertex) (label far hops vertex) (record { no_longer = omega (arith, ints, far_same); no_fewer = λ long. omega (arith, hops_same) })
      at vertex low false is =
          let label_held = held vertex low in
          let less = own vertex (omega (arith, low, many)) ∙ ap (λ t. cond t (pos 0) least) is in
          test-no_better (standing now counts vertex) (label far hops vertex)
          (record { no_longer = omega (arith, ints, less, label_held.low); no_fewer = λ long. absurd (omega (arith, ints, less, label_held.low, long)) })

      standing-first : (vertex : ℕ) → vertex < vertex_count net → hops vertex ≤ 0 → (test : Bool) → mark_at marks vertex ≡ test → standing now counts vertex ≡ label far hops vertex
      standing-first vertex low none true is = nothing vertex low is
      standing-first vertex low none false is =
          let (k, way, within, there, (ends, from, tight)) = target.comes vertex low (start vertex false is) in
          let some = ap (λ (r : Reach). r.hops) tight in
          absurd (omega (arith, some, none))

-- Fewer passes than were made.
pub enough : (far : ℕ → ℤ) (hops : ℕ → ℕ) (passes fewer : ℕ) (now : List ℤ) (counts : List ℕ) → fewer ≤ passes → HaveCome far hops passes now counts → HaveCome far hops fewer now counts
enough far hops passes fewer now counts less come = record { under = come.under; stand = λ vertex low few. come.stand vertex low (omega (arith, few, less)) }

-- All labels stand after as many passes as there are vertices.
pub come-last : (net : Net) (flow : Flow) (starts : ℕ → Bool) (far : ℕ → ℤ) (hops : ℕ → ℕ) (now : List ℤ) (counts : List ℕ) → IsTarget net flow starts far hops → length now ≡ vertex_count net → HaveCome far hops (vertex_count net) now counts
    → (vertex : ℕ) → vertex < vertex_count net → (at_vertex now vertex ≡ far vertex) × (count_at counts vertex ≡ hops vertex)
come-last net flow starts far hops now counts target many come vertex low =
    let same = come.stand vertex (omega (arith, low, many)) (omega (arith, target.few vertex low)) in
    (ap (λ (r : Reach). r.length) same, ap (λ (r : Reach). r.hops) same)
