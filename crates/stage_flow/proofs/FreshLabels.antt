-- Labels that are right outside marked vertices. From a vertex that isn't marked a tight walk leads to a mirror that wants, over vertices that
-- aren't marked, since each of them is sound and each tight arc leads one arc nearer. So a round goes by such labels from each sender that
-- isn't marked. Labels that are right everywhere are right outside none.
use Rattle.std.proofs.Common.{◌≡◌, ◌<◌, ◌+◌, ◌==◌, ◌∙◌, ◌-ℤ◌, ◌^◌, inl, inr, ℕ, zero, suc, ℤ, pos, Bool, true, false, List, [], ◌∷◌, length, map, All, Contains, refl, ap, sym, arith, true≢false}
use Rattle.std.proofs.lemmas.Bool.{eq-eqb, ne_eqb}
use Rattle.std.proofs.lemmas.Int.{ints}
use Rattle.std.proofs.lemmas.List.Elements.{All-nil, All-cons, All-contains, All-contains_itself, All-weaker}
use Rattle.flow_net.specs.declared.net.Net.{Net}
use Rattle.flow_net.specs.declared.net.Flow.{Flow}
use Rattle.stage_flow.specs.Residual.{ways_of, vertex_count}
use Rattle.stage_flow.specs.Longest.{Reach}
use Rattle.stage_flow.specs.Rounds.{is_wanting}
use Rattle.stage_flow.specs.LawsOfWalks.{IsTight, AreLabels, AreLabelsFor, Serves}
use Rattle.stage_flow.specs.Given.{IsNetwork, ArePotentials, at_vertex}
use Rattle.stage_flow.specs.Passes.{mark_at}
use Rattle.stage_flow.specs.Mending.{IsSound, AreRightOutside}
use Rattle.stage_flow.specs.Staleness.{AreDead, AreKept}
use Rattle.stage_flow.proofs.Labels.{IsLow, tight-nearer, hops-below}
use Rattle.stage_flow.proofs.LabelBounds.{far-within_hops}
use Rattle.stage_flow.proofs.Round.{ways-low, fits-labelled}
use Rattle.stage_flow.proofs.ProgressNetworks.{vertices-few, light, ends-among}
use Rattle.stage_flow.proofs.ProgressPotentials.{IsWithin, negated-fit}

-- ---- Where labels are right outside marked vertices
module _ (net : Net) (flow : Flow) (far : ℕ → ℤ) (hops : ℕ → ℕ) (marks : List Bool) (right : AreRightOutside net flow far hops marks) where
  -- From a vertex that isn't marked a tight walk leads to a mirror that wants.
  pub fresh-served : All (IsLow (vertex_count net)) (ways_of net flow) → (from : ℕ) → from < vertex_count net → mark_at marks from ≡ false → Serves net flow far hops from
  fresh-served low from within fresh = down (hops from) from within fresh refl
    where
      at : (left v : ℕ) → IsSound net flow far hops marks v → hops v ≡ left → ((w : ℕ) → w < vertex_count net → mark_at marks w ≡ false → hops w + 1 ≡ left → Serves net flow far hops w) → Serves net flow far hops v
      at left v (inl wants) same next = record {
        mirror = v;
        wants = wants;
        walk = [];
        tight = record { goes = refl; tight = All-nil (IsTight far hops) };
      }
      at left v (inr (k, way, inside, there, (begins, own, free))) same next =
          let ends = All-contains (IsLow (vertex_count net)) (ways_of net flow) way low (k, inside, there) in
          let here = ap hops begins in
          let rest = next way.head ends.1 free (omega (arith, tight-nearer far hops way own, same, here)) in record {
            mirror = rest.mirror;
            wants = rest.wants;
            walk = way ∷ rest.walk;
            tight = record { goes = ((k, inside, there), begins, rest.tight.goes); tight = All-cons (IsTight far hops) way rest.walk own rest.tight.tight };
          }

      down : (left v : ℕ) → v < vertex_count net → mark_at marks v ≡ false → hops v ≡ left → Serves net flow far hops v
      down zero v low fresh is = at 0 v (right.sound v low fresh) is (λ w h f more. absurd (omega (arith, more)))
      down (suc left) v low fresh is = at (suc left) v (right.sound v low fresh) is (λ w h f more. down left w h f (omega (arith, more)))

  -- So they are labels for it,
  pub fresh-labels_for : All (IsLow (vertex_count net)) (ways_of net flow) → (from : ℕ) → from < vertex_count net → mark_at marks from ≡ false → AreLabelsFor net flow far hops from
  fresh-labels_for low from within fresh = record {
    fits = right.fits;
    nothing = λ vertex wants. (right.nothing vertex wants).0;
    served = fresh-served low from within fresh;
  }

  -- and of the vertices that aren't marked those want that have no arc to go.
  pub fresh-wanting : (vertex : ℕ) → vertex < vertex_count net → mark_at marks vertex ≡ false → is_wanting net flow vertex ≡ (hops vertex == 0)
  fresh-wanting vertex within fresh = by (is_wanting net flow vertex) refl
    where
      onward : IsSound net flow far hops marks vertex → is_wanting net flow vertex ≡ false → false ≡ (hops vertex == 0)
      onward (inl wants) none = absurd (true≢false (sym wants ∙ none))
      onward (inr (k, way, inside, there, (begins, tight, free))) none =
          let nearer = tight-nearer far hops way tight in
          let same = ap hops begins in
          sym (ne_eqb (hops vertex) 0 (λ zero. absurd (omega (arith, nearer, same, zero))))

      by : (b : Bool) → is_wanting net flow vertex ≡ b → b ≡ (hops vertex == 0)
      by true wants = sym (eq-eqb (hops vertex) 0 (ap (λ (r : Reach). r.hops) (right.nothing vertex wants).0))
      by false none = onward (right.sound vertex within fresh) none

-- ---- Labels that are right everywhere
module _ (net : Net) (flow : Flow) (far : ℕ → ℤ) (hops : ℕ → ℕ) (marks : List Bool) (is : IsNetwork net) (labels : AreLabels net flow far hops) (none : (vertex : ℕ) → mark_at marks vertex ≡ false) where
  pub clear-right : AreRightOutside net flow far hops marks
  clear-right = record {
    fits = labels.fits;
    nothing = λ vertex wants. (labels.nothing vertex wants, none vertex);
    few = λ vertex within. hops-below net flow far hops labels (ways-low net flow (ends-among net is)) vertex within;
    held = λ vertex within.
        let own = far-within_hops net flow far hops (ends-among net is) (light net is) labels vertex within in
        let few = vertices-few net is in
        (omega (arith, ints, own.1, own.2, few), omega (arith, ints, own.0, own.2, few));
    sound = λ vertex within fresh. sound vertex within (is_wanting net flow vertex) refl;
  }
    where
      sound : (vertex : ℕ) → vertex < vertex_count net → (b : Bool) → is_wanting net flow vertex ≡ b → IsSound net flow far hops marks vertex
      sound vertex within true wants = inl wants
      sound vertex within false other =
          let (k, way, low, there, (begins, tight)) = labels.onward vertex within other in inr (k, way, low, there, (begins, tight, none way.head))

  pub clear-dead : AreDead net flow far hops marks
  clear-dead =
      All-weaker (Contains (ways_of net flow)) (λ way. IsTight far hops way → mark_at marks way.tail ≡ true → mark_at marks way.head ≡ true)
      (λ way there tight marked. absurd (true≢false (sym marked ∙ none way.tail))) (ways_of net flow) (All-contains_itself (ways_of net flow))

  pub clear-kept : AreKept net flow far hops marks
  clear-kept = record {
    right = clear-right;
    dead = clear-dead;
    near = λ vertex within. let own = far-within_hops net flow far hops (ends-among net is) (light net is) labels vertex within in (own.1, own.0);
  }

-- ---- Potentials
-- What is kept from round to round is, negated, potentials that fit.
pub kept-within : (net : Net) (flow : Flow) (far : ℕ → ℤ) (hops : ℕ → ℕ) (marks : List Bool) → IsNetwork net → AreKept net flow far hops marks → (vertex : ℕ) → vertex < vertex_count net → IsWithin (2 ^ 32) (far vertex)
kept-within net flow far hops marks is kept vertex within =
    let near = kept.near vertex within in
    let few = kept.right.few vertex within in
    let all = vertices-few net is in
    (omega (arith, ints, near.0, few, all), omega (arith, ints, near.1, few, all))

pub kept-negated : (net : Net) (flow : Flow) (far : List ℤ) (hops : ℕ → ℕ) (marks : List Bool) → IsNetwork net → AreKept net flow (at_vertex far) hops marks → length far ≡ vertex_count net → ArePotentials net flow (map (λ (z : ℤ). pos 0 -ℤ z) far)
kept-negated net flow far hops marks is kept each =
    negated-fit net flow far each (fits-labelled (at_vertex far) hops (ways_of net flow) kept.right.fits) (kept-within net flow (at_vertex far) hops marks is kept)
