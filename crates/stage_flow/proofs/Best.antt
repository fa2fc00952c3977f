-- What is the best of the walks with at most so many arcs: it is attained, and no walk is better. An arc that goes on makes no
-- walk better than the best that goes on by it, so along any walk the best so far stays at least as good.
use Rattle.std.proofs.Common.{◌≡◌, ◌≤◌, ◌+◌, ◌==◌, ◌∙◌, ◌++◌, ◌⊎◌, ℕ, zero, suc, pos, Bool, true, false, cond, List, [], ◌∷◌, length, All, Contains, Option, Some, None, refl, ap, sym, subst, inl, inr, arith, ⊎_elim}
use Rattle.std.proofs.lemmas.Bool.{cases_lt, eqb-true, eq-eqb}
use Rattle.std.proofs.lemmas.Int.{ints}
use Rattle.std.proofs.lemmas.List.{length_push}
use Rattle.std.proofs.lemmas.List.Elements.{All-nil, All-cons, All-weaker, All-contains}
use Rattle.stage_flow.specs.Residual.{Way}
use Rattle.stage_flow.specs.Longest.{Reach, is_better, better, by_way, best_into, best_within}
use Rattle.stage_flow.specs.LawsOfWalks.{IsWalk, reach_of, TheBestIsAttained, NoWalkIsBetter}
use Rattle.stage_flow.proofs.Walks.{IsNoBetter, test-no_better, no_better-test, better-no_better, no_better-same, no_better-through, no_better-way, both, then_way, reach-same, walk-push, reach_of-push}

-- a best that is there, and at least as good as a reach
pub record IsAtLeast (found : Option Reach) (reach : Reach) : Type 0 where
  pub best : Reach
  pub is : found ≡ Some best
  pub no_better : IsNoBetter reach best

-- Of two the better one is one of them, and at least as good as each.
chosen : (a b : Reach) (test : Bool) → is_better b a ≡ test → ((best : Reach) → IsNoBetter a best → IsNoBetter b best → IsAtLeast (Some best) a × IsAtLeast (Some best) b) → IsAtLeast (cond test (Some b) (Some a)) a × IsAtLeast (cond test (Some b) (Some a)) b
chosen a b true test done = done b (better-no_better b a test) (no_better-same b)
chosen a b false test done = done a (no_better-same a) (no_better-test b a test)

of_two : (a b : Reach) → IsAtLeast (better (Some a) (Some b)) a × IsAtLeast (better (Some a) (Some b)) b
of_two a b =
    chosen a b (is_better b a) refl
    (λ best first second. (record { best = best; is = refl; no_better = first }, record { best = best; is = refl; no_better = second }))

at_least-through : (found : Option Reach) (a b : Reach) → IsNoBetter a b → IsAtLeast found b → IsAtLeast found a
at_least-through found a b less at = record { best = at.best; is = at.is; no_better = no_better-through a b at.best less at.no_better }

better-first : (a b : Option Reach) (reach : Reach) → IsAtLeast a reach → IsAtLeast (better a b) reach
better-first None b reach at = let is : None ≡ Some at.best = at.is in absurd (cc)
better-first (Some a) None reach at = at
better-first (Some a) (Some b) reach at =
    let is : Some a ≡ Some at.best = at.is in
    let same : at.best ≡ a = cc in
    at_least-through (better (Some a) (Some b)) reach a (subst (IsNoBetter reach) same at.no_better) (of_two a b).0

better-second : (a b : Option Reach) (reach : Reach) → IsAtLeast b reach → IsAtLeast (better a b) reach
better-second None b reach at = at
better-second (Some a) None reach at = let is : None ≡ Some at.best = at.is in absurd (cc)
better-second (Some a) (Some b) reach at =
    let is : Some b ≡ Some at.best = at.is in
    let same : at.best ≡ b = cc in
    at_least-through (better (Some a) (Some b)) reach b (subst (IsNoBetter reach) same at.no_better) (of_two a b).1

better-one : (a b : Option Reach) (reach : Reach) → better a b ≡ Some reach → (a ≡ Some reach) ⊎ (b ≡ Some reach)
better-one None b reach is = inr is
better-one (Some a) None reach is = inl is
better-one (Some a) (Some b) reach is = by (is_better b a) is
  where
    by : (test : Bool) → cond test (Some b) (Some a) ≡ Some reach → (Some a ≡ Some reach) ⊎ (Some b ≡ Some reach)
    by true is = inr is
    by false is = inl is

-- An arc goes on from what is found at its tail.
way-at_least : (way : Way) (found : Option Reach) (reach : Reach) → IsAtLeast found reach → IsAtLeast (by_way way found) (then_way reach way)
way-at_least way found reach at =
    record { best = then_way at.best way; is = ap (by_way way) at.is; no_better = no_better-way reach at.best way at.no_better }

pub way-one : (way : Way) (found : Option Reach) (reach : Reach) → by_way way found ≡ Some reach → (before : Reach) × (found ≡ Some before) × (then_way before way ≡ reach)
way-one way None reach is = absurd (cc)
way-one way (Some before) reach is = let same : then_way before way ≡ reach = cc in (before, refl, same)

-- The best into a vertex is at least as good as each arc into it makes it, and is made by one of them.
abbrev GoesOn : (ℕ → Option Reach) → List Way → Way → Type 0
GoesOn best ways way = (reach : Reach) → IsAtLeast (best way.tail) reach → IsAtLeast (best_into best ways way.head) (then_way reach way)

into-each : (best : ℕ → Option Reach) (ways : List Way) → All (GoesOn best ways) ways
into-each best [] = All-nil (GoesOn best [])
into-each best (one ∷ ways) =
    All-cons (GoesOn best (one ∷ ways)) one ways (λ reach at. first (one.head == one.head) (eq-eqb one.head one.head refl) reach at)
    (All-weaker (GoesOn best ways) (GoesOn best (one ∷ ways)) (λ way rest reach at. other way (one.head == way.head) reach (rest reach at)) ways (into-each best ways))
  where
    first : (test : Bool) → test ≡ true → (reach : Reach) → IsAtLeast (best one.tail) reach → IsAtLeast (cond test (better (by_way one (best one.tail)) (best_into best ways one.head)) (best_into best ways one.head)) (then_way reach one)
    first test ends reach at =
        rw ends
        (better-first (by_way one (best one.tail)) (best_into best ways one.head) (then_way reach one) (way-at_least one (best one.tail) reach at))

    other : (way : Way) (test : Bool) (reach : Reach) → IsAtLeast (best_into best ways way.head) (then_way reach way) → IsAtLeast (cond test (better (by_way one (best one.tail)) (best_into best ways way.head)) (best_into best ways way.head)) (then_way reach way)
    other way true reach at = better-second (by_way one (best one.tail)) (best_into best ways way.head) (then_way reach way) at
    other way false reach at = at

-- a residual arc that ends at a vertex and brings a reach there
record Comes (best : ℕ → Option Reach) (ways : List Way) (vertex : ℕ) (reach : Reach) : Type 0 where
  way : Way
  there : Contains ways way
  ends : way.head ≡ vertex
  before : Reach
  is : best way.tail ≡ Some before
  then : then_way before way ≡ reach

comes-more : (best : ℕ → Option Reach) (one : Way) (ways : List Way) (vertex : ℕ) (reach : Reach) → Comes best ways vertex reach → Comes best (one ∷ ways) vertex reach
comes-more best one ways vertex reach come = record {
  way = come.way;
  there = (let (k, within, is) = come.there in (suc k, omega arith, is));
  ends = come.ends;
  before = come.before;
  is = come.is;
  then = come.then;
}

into-one : (best : ℕ → Option Reach) (ways : List Way) (vertex : ℕ) (reach : Reach) → best_into best ways vertex ≡ Some reach → Comes best ways vertex reach
into-one best [] vertex reach is = absurd (cc)
into-one best (one ∷ ways) vertex reach is = by (one.head == vertex) refl is (into-one best ways vertex reach)
  where
    by : (test : Bool) → (one.head == vertex) ≡ test → cond test (better (by_way one (best one.tail)) (best_into best ways vertex)) (best_into best ways vertex) ≡ Some reach → (best_into best ways vertex ≡ Some reach → Comes best ways vertex reach) → Comes best (one ∷ ways) vertex reach
    by false test is rest = comes-more best one ways vertex reach (rest is)
    by true test is rest =
        ⊎_elim {C = Comes best (one ∷ ways) vertex reach}
        (λ here.
        let (before, found, same) = way-one one (best one.tail) reach here in
        record { way = one; there = (0, omega arith, refl); ends = eqb-true one.head vertex test; before = before; is = found; then = same })
        (λ later. comes-more best one ways vertex reach (rest later))
        (better-one (by_way one (best one.tail)) (best_into best ways vertex) reach is)

pub the_best_is_attained : TheBestIsAttained
the_best_is_attained ways from zero vertex reach is = by (vertex == from) refl is
  where
    by : (test : Bool) → (vertex == from) ≡ test → cond test (Some (record { length = pos 0; hops = 0 })) None ≡ Some reach → (walk : List Way) × IsWalk ways from vertex walk × (length walk ≤ 0) × (reach_of walk ≡ reach)
    by true test is = ([], sym (eqb-true vertex from test), omega arith, (let same : record { length = pos 0; hops = 0 } ≡ reach = cc in same))
    by false test is = absurd (cc)
the_best_is_attained ways from (suc arcs) vertex reach is =
    ⊎_elim {C = (walk : List Way) × IsWalk ways from vertex walk × (length walk ≤ suc arcs) × (reach_of walk ≡ reach)}
    (λ shorter. let (walk, goes, few, far) = the_best_is_attained ways from arcs vertex reach shorter in (walk, goes, omega arith, far))
    (λ by_arc.
    let come = into-one (best_within ways from arcs) ways vertex reach by_arc in
    let (walk, goes, few, far) = the_best_is_attained ways from arcs come.way.tail come.before come.is in (
      walk ++ come.way ∷ [],
      subst (λ v. IsWalk ways from v (walk ++ come.way ∷ [])) come.ends (walk-push ways from come.way.tail walk come.way goes come.there refl),
      omega (arith, length_push walk come.way),
      reach_of-push walk come.way ∙ ap (λ (before : Reach). then_way before come.way) far ∙ come.then,
    ))
    (better-one (best_within ways from arcs vertex) (best_into (best_within ways from arcs) ways vertex) reach is)

-- More arcs make the best no worse,
best-grows : (ways : List Way) (from few arcs vertex : ℕ) (reach : Reach) → few ≤ arcs → IsAtLeast (best_within ways from few vertex) reach → IsAtLeast (best_within ways from arcs vertex) reach
best-grows ways from few zero vertex reach within at =
    subst (λ n. IsAtLeast (best_within ways from n vertex) reach) (let none : few ≡ 0 = omega arith in none) at
best-grows ways from few (suc arcs) vertex reach within at =
    ⊎_elim {C = IsAtLeast (best_within ways from (suc arcs) vertex) reach}
    (λ less.
    better-first (best_within ways from arcs vertex) (best_into (best_within ways from arcs) ways vertex) reach
    (best-grows ways from few arcs vertex reach (omega arith) at))
    (λ all. subst (λ n. IsAtLeast (best_within ways from n vertex) reach) (let same : few ≡ suc arcs = omega arith in same) at)
    (cases_lt few (suc arcs))

-- and neither does a walk that goes on.
best-along : (ways : List Way) (from few arcs at to : ℕ) (reach : Reach) (walk : List Way) → IsWalk ways at to walk → few + length walk ≤ arcs → IsAtLeast (best_within ways from few at) reach → IsAtLeast (best_within ways from arcs to) (both reach (reach_of walk))
best-along ways from few arcs at to reach [] goes within least =
    let same : reach ≡ both reach (reach_of []) = reach-same reach (both reach (reach_of [])) (omega (arith, ints)) (omega arith) in
    subst (λ v. IsAtLeast (best_within ways from arcs v) (both reach (reach_of []))) goes
    (subst (IsAtLeast (best_within ways from arcs at)) same (best-grows ways from few arcs at reach (omega arith) least))
best-along ways from few arcs at to reach (way ∷ walk) (there, begins, goes) within least =
    let here : IsAtLeast (best_within ways from few way.tail) reach = subst (λ v. IsAtLeast (best_within ways from few v) reach) (sym begins) least in
    let on : IsAtLeast (best_within ways from (suc few) way.head) (then_way reach way) =
    better-second (best_within ways from few way.head) (best_into (best_within ways from few) ways way.head) (then_way reach way)
    (All-contains (GoesOn (best_within ways from few) ways) ways way (into-each (best_within ways from few) ways) there reach here) in
    let same : both (then_way reach way) (reach_of walk) ≡ both reach (reach_of (way ∷ walk)) =
    reach-same (both (then_way reach way) (reach_of walk)) (both reach (reach_of (way ∷ walk))) (omega (arith, ints)) (omega arith) in
    subst (IsAtLeast (best_within ways from arcs to)) same
    (best-along ways from (suc few) arcs way.head to (then_way reach way) walk goes (omega arith) on)

pub no_walk_is_better : NoWalkIsBetter
no_walk_is_better ways from arcs vertex walk goes within =
    let none : Reach = record { length = pos 0; hops = 0 } in
    let start : IsAtLeast (best_within ways from 0 from) none = rw (eq-eqb from from refl) (record { best = none; is = refl; no_better = no_better-same none }) in
    let at = best-along ways from 0 arcs from vertex none walk goes (omega arith) start in
    let same : both none (reach_of walk) ≡ reach_of walk = reach-same (both none (reach_of walk)) (reach_of walk) (omega (arith, ints)) (omega arith) in
    (at.best, at.is, test-no_better (reach_of walk) at.best (subst (λ (reach : Reach). IsNoBetter reach at.best) same at.no_better))
