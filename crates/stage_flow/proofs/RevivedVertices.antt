-- Marked vertices that have become sound are unmarked. Whoever is unmarked stays sound, since no vertex is marked anew. A marked vertex that
-- leads to one that is unmarked now is the tail of a tight arc into it, and is looked at again. At the end nobody is left to be looked at,
-- so all marked vertices are dead.
use Rattle.std.proofs.Common.{◌≡◌, ◌≢◌, ◌<◌, ◌∙◌, ◌++◌, ◌⊎◌, inl, inr, ℕ, ℤ, Bool, true, false, List, [], ◌∷◌, length, set, All, Contains, refl, ap, sym, subst, true≢false, ⊎_elim}
use Rattle.std.proofs.lemmas.Bool.{cases_eq}
use Rattle.std.proofs.lemmas.List.{get_or-set_same, get_or-set_other}
use Rattle.std.proofs.lemmas.List.Elements.{All-append, All-contains, All-weaker, All-contains_itself, Contains-append_left, Contains-append_right, Contains-append_cases}
use Rattle.net_base.proofs.CallerLemmas.{Contains-one}
use Rattle.flow_net.specs.declared.net.Net.{Net}
use Rattle.flow_net.specs.declared.net.Flow.{Flow}
use Rattle.stage_flow.specs.Residual.{Way, ways_of, vertex_count}
use Rattle.stage_flow.specs.LawsOfWalks.{IsTight, EndsAreVertices}
use Rattle.stage_flow.specs.Passes.{mark_at}
use Rattle.stage_flow.specs.Mending.{IsSound, AreRightOutside}
use Rattle.stage_flow.specs.Staleness.{LeadsAway, NoneLeadsAway, tails_of}
use Rattle.stage_flow.specs.Raising.{IsDead, AreDeadBut}
use Rattle.stage_flow.proofs.HalfwaySteps.{marked-before}
use Rattle.stage_flow.specs.Sending.{ways_near}
use Rattle.stage_flow.proofs.SendingSearch.{near-to}
use Rattle.stage_flow.proofs.StaleVertices.{tail-among, tails-low}

-- A vertex from which nothing leads away is dead, and so is one that isn't marked.
pub dead-one : (net : Net) (flow : Flow) (far : ℕ → ℤ) (hops : ℕ → ℕ) (marks : List Bool) (vertex : ℕ) → NoneLeadsAway far hops marks vertex (ways_of net flow) → IsDead net flow far hops marks vertex
dead-one net flow far hops marks vertex none =
    All-weaker (Contains (ways_of net flow)) (λ way. IsTight far hops way → way.tail ≡ vertex → mark_at marks vertex ≡ true → mark_at marks way.head ≡ true)
    (λ way there tight begins marked. by way there tight begins (mark_at marks way.head) refl) (ways_of net flow) (All-contains_itself (ways_of net flow))
  where
    by : (way : Way) → Contains (ways_of net flow) way → IsTight far hops way → way.tail ≡ vertex → (b : Bool) → mark_at marks way.head ≡ b → mark_at marks way.head ≡ true
    by way there tight begins true is = is
    by way there tight begins false is = absurd (All-contains (λ (one : Way). LeadsAway far hops marks vertex one → ⊥) (ways_of net flow) way none there (begins, tight, is))

-- A dead vertex is taken off those to be looked at.
pub dead-but-fewer : (net : Net) (flow : Flow) (far : ℕ → ℤ) (hops : ℕ → ℕ) (marks : List Bool) (before after : List ℕ) (taken : ℕ) → before ≡ after ++ taken ∷ [] → IsDead net flow far hops marks taken → AreDeadBut net flow far hops marks before → AreDeadBut net flow far hops marks after
dead-but-fewer net flow far hops marks before after taken is dead was =
    All-weaker (Contains (ways_of net flow)) (λ way. IsTight far hops way → mark_at marks way.tail ≡ true → (mark_at marks way.head ≡ true) ⊎ Contains after way.tail)
    (λ way there tight marked.
    ⊎_elim {C = (mark_at marks way.head ≡ true) ⊎ Contains after way.tail} inl
    (λ listed.
    ⊎_elim {C = (mark_at marks way.head ≡ true) ⊎ Contains after way.tail} inr
    (λ last.
    let same = Contains-one taken way.tail last in
    inl (All-contains (λ (one : Way). IsTight far hops one → one.tail ≡ taken → mark_at marks taken ≡ true → mark_at marks one.head ≡ true) (ways_of net flow) way dead there tight (sym same) (ap (mark_at marks) same ∙ marked)))
    (Contains-append_cases after (taken ∷ []) way.tail (subst (λ xs. Contains xs way.tail) is listed)))
    (All-contains (λ (one : Way). IsTight far hops one → mark_at marks one.tail ≡ true → (mark_at marks one.head ≡ true) ⊎ Contains before one.tail) (ways_of net flow) way was there tight marked))
    (ways_of net flow) (All-contains_itself (ways_of net flow))

-- ---- One vertex is unmarked
module _ (net : Net) (flow : Flow) (far : ℕ → ℤ) (hops : ℕ → ℕ) (marks : List Bool) (vertex : ℕ) (within : vertex < length marks) where
  abbrev new : List Bool
  new = set marks vertex false

  here : mark_at new vertex ≡ false
  here = get_or-set_same marks vertex false false within

  other : (one : ℕ) → one ≢ vertex → mark_at new one ≡ mark_at marks one
  other one apart = get_or-set_other marks vertex one false false apart

  -- who was unmarked stays so
  free-still : (one : ℕ) → mark_at marks one ≡ false → mark_at new one ≡ false
  free-still one free = ⊎_elim {C = mark_at new one ≡ false} (λ same. ap (mark_at new) same ∙ here) (λ apart. other one apart ∙ free) (cases_eq one vertex)

  sound-still : (one : ℕ) → IsSound net flow far hops marks one → IsSound net flow far hops new one
  sound-still one (inl wants) = inl wants
  sound-still one (inr (k, way, low, there, (begins, tight, away))) = inr (k, way, low, there, (begins, tight, free-still way.head away))

  pub revived-right : IsSound net flow far hops marks vertex → AreRightOutside net flow far hops marks → AreRightOutside net flow far hops new
  revived-right sound right = record {
    fits = right.fits;
    nothing = λ one wants. let was = right.nothing one wants in (was.0, free-still one was.1);
    few = right.few;
    held = right.held;
    sound = λ one inside free.
        ⊎_elim {C = IsSound net flow far hops new one}
        (λ same. subst (IsSound net flow far hops new) (sym same) (sound-still vertex sound))
        (λ apart. sound-still one (right.sound one inside (sym (other one apart) ∙ free)))
        (cases_eq one vertex);
  }

  pub revived-dead : (after : List ℕ) → AreDeadBut net flow far hops marks (after ++ vertex ∷ []) → AreDeadBut net flow far hops new (after ++ tails_of far hops vertex (ways_near net flow vertex))
  revived-dead after was =
      All-weaker (Contains (ways_of net flow)) (λ way. IsTight far hops way → mark_at new way.tail ≡ true → (mark_at new way.head ≡ true) ⊎ Contains next way.tail)
      (λ way there tight marked.
      let apart : way.tail ≢ vertex = λ same. true≢false (sym marked ∙ ap (mark_at new) same ∙ here) in
      ⊎_elim {C = (mark_at new way.head ≡ true) ⊎ Contains next way.tail}
      (λ dead.
      ⊎_elim {C = (mark_at new way.head ≡ true) ⊎ Contains next way.tail}
      (λ same. inr (Contains-append_right after (tails_of far hops vertex (ways_near net flow vertex)) way.tail (tail-among far hops vertex (ways_near net flow vertex) way (near-to net flow vertex way there (inr same)) same tight)))
      (λ away. inl (other way.head away ∙ dead))
      (cases_eq way.head vertex))
      (λ listed.
      ⊎_elim {C = (mark_at new way.head ≡ true) ⊎ Contains next way.tail}
      (λ left. inr (Contains-append_left after (tails_of far hops vertex (ways_near net flow vertex)) way.tail left))
      (λ last. absurd (apart (sym (Contains-one vertex way.tail last))))
      (Contains-append_cases after (vertex ∷ []) way.tail listed))
      (All-contains (λ (one : Way). IsTight far hops one → mark_at marks one.tail ≡ true → (mark_at marks one.head ≡ true) ⊎ Contains (after ++ vertex ∷ []) one.tail) (ways_of net flow) way was there tight (marked-before marks vertex way.tail marked)))
      (ways_of net flow) (All-contains_itself (ways_of net flow))
    where
      next : List ℕ
      next = after ++ tails_of far hops vertex (ways_near net flow vertex)

  pub revived-low : (after : List ℕ) → EndsAreVertices net → All (λ one. one < vertex_count net) after → All (λ one. one < vertex_count net) (after ++ tails_of far hops vertex (ways_near net flow vertex))
  revived-low after ends lows = All-append (λ one. one < vertex_count net) after (tails_of far hops vertex (ways_near net flow vertex)) lows (tails-low net flow far hops vertex ends)
