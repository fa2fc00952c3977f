-- The best of walks, as the definition finds it: what holds of the empty walk, and goes on by residual arcs, holds of it. So potentials
-- that fit rise by its length or more, and it is no longer than it has arcs.
use Rattle.std.proofs.Common.{◌≡◌, ◌+◌, ◌==◌, ℕ, zero, suc, ℤ, pos, ◌+ℤ◌, ◌≤ℤ◌, Bool, true, false, cond, List, [], ◌∷◌, All, Option, Some, None, IfSome, refl, subst, arith}
use Rattle.std.proofs.lemmas.Bool.Decides.{nat_tests}
use Rattle.std.proofs.lemmas.Int.{ints}
use Rattle.std.proofs.lemmas.List.Elements.{All-head, All-tail, All-weaker}
use Rattle.stage_flow.specs.Residual.{Way}
use Rattle.stage_flow.specs.Longest.{Reach, is_better, better, by_way, best_into, best_within}
use Rattle.stage_flow.specs.LawsOfEpochs.{Fits}

-- What holds of two reaches holds of the better.
pub better-keeps : (P : Reach → Type 0) (a b : Option Reach) → IfSome a P → IfSome b P → IfSome (better a b) P
better-keeps P None b first second = second
better-keeps P (Some a) None first second = first
better-keeps P (Some a) (Some b) first second = by (is_better b a)
  where
    by : (test : Bool) → IfSome (cond test (Some b) (Some a)) P
    by true = second
    by false = first

-- What holds of the empty walk, and goes on by residual arcs, holds of the best walk into each vertex.
module _ (Q : ℕ → ℕ → Reach → Type 0) (ways : List Way) (from : ℕ) where
  -- it goes on by a residual arc, to the arc's head and with an arc more
  abbrev pub GoesOn : Way → Type 0
  GoesOn way = (arcs : ℕ) (reach : Reach) → Q arcs way.tail reach → Q (suc arcs) way.head (record { length = reach.length +ℤ way.length; hops = reach.hops + 1 })

  pub record AreKept : Type 0 where
    pub starts : Q 0 from (record { length = pos 0; hops = 0 })
    pub waits : (arcs vertex : ℕ) (reach : Reach) → Q arcs vertex reach → Q (suc arcs) vertex reach
    pub goes : All GoesOn ways

  by_way-keeps : (arcs vertex : ℕ) (way : Way) (best : Option Reach) → way.head ≡ vertex → GoesOn way → IfSome best (Q arcs way.tail) → IfSome (by_way way best) (Q (suc arcs) vertex)
  by_way-keeps arcs vertex way None there goes best = tt
  by_way-keeps arcs vertex way (Some reach) there goes best =
      subst (λ v. Q (suc arcs) v (record { length = reach.length +ℤ way.length; hops = reach.hops + 1 })) there (goes arcs reach best)

  best_into-keeps : (arcs : ℕ) (best : ℕ → Option Reach) → ((vertex : ℕ) → IfSome (best vertex) (Q arcs vertex)) → (vertex : ℕ) (some : List Way) → All GoesOn some → IfSome (best_into best some vertex) (Q (suc arcs) vertex)
  best_into-keeps arcs best each vertex [] goes = tt
  best_into-keeps arcs best each vertex (way ∷ some) goes =
      by (way.head == vertex) refl (best_into-keeps arcs best each vertex some (All-tail GoesOn way some goes))
    where
      by : (b : Bool) → (way.head == vertex) ≡ b → IfSome (best_into best some vertex) (Q (suc arcs) vertex)
          → IfSome (cond b (better (by_way way (best way.tail)) (best_into best some vertex)) (best_into best some vertex)) (Q (suc arcs) vertex)
      by true e rest =
          better-keeps (Q (suc arcs) vertex) (by_way way (best way.tail)) (best_into best some vertex)
          (by_way-keeps arcs vertex way (best way.tail) (grind (arith, nat_tests)) (All-head GoesOn way some goes) (each way.tail)) rest
      by false e rest = rest

  waits-any : AreKept → (arcs vertex : ℕ) (best : Option Reach) → IfSome best (Q arcs vertex) → IfSome best (Q (suc arcs) vertex)
  waits-any kept arcs vertex None best = tt
  waits-any kept arcs vertex (Some reach) best = kept.waits arcs vertex reach best

  pub best-keeps : AreKept → (arcs vertex : ℕ) → IfSome (best_within ways from arcs vertex) (Q arcs vertex)
  best-keeps kept zero vertex = by (vertex == from) refl
    where
      by : (b : Bool) → (vertex == from) ≡ b → IfSome (cond b (Some (record { length = pos 0; hops = 0 })) None) (Q 0 vertex)
      by true e = let same : from ≡ vertex = grind (arith, nat_tests) in subst (λ v. Q 0 v (record { length = pos 0; hops = 0 })) same kept.starts
      by false e = tt
  best-keeps kept (suc arcs) vertex =
      better-keeps (Q (suc arcs) vertex) (best_within ways from arcs vertex) (best_into (best_within ways from arcs) ways vertex)
      (waits-any kept arcs vertex (best_within ways from arcs vertex) (best-keeps kept arcs vertex))
      (best_into-keeps arcs (best_within ways from arcs) (best-keeps kept arcs) vertex ways kept.goes)

-- Potentials that fit rise by the length of a walk or more.
pub best-below : (p : ℕ → ℤ) (ways : List Way) (from arcs vertex : ℕ) → All (Fits p) ways → IfSome (best_within ways from arcs vertex) (λ reach. (p from +ℤ reach.length) ≤ℤ p vertex)
best-below p ways from arcs vertex fits =
    let Q = λ (arcs vertex : ℕ) (reach : Reach). (p from +ℤ reach.length) ≤ℤ p vertex in
    best-keeps Q ways from
    (record {
      starts = omega (arith, ints);
      waits = λ arcs vertex reach h. h;
      goes = All-weaker (Fits p) (GoesOn Q ways from) (λ way fit arcs reach h. omega (arith, ints)) ways fits;
    }) arcs vertex

-- Where no residual arc is longer than 1, no walk is longer than the number of its arcs.
pub best-few : (ways : List Way) (from arcs vertex : ℕ) → All (λ way. way.length ≤ℤ pos 1) ways → IfSome (best_within ways from arcs vertex) (λ reach. reach.length ≤ℤ pos arcs)
best-few ways from arcs vertex short =
    let Q = λ (arcs vertex : ℕ) (reach : Reach). reach.length ≤ℤ pos arcs in
    best-keeps Q ways from
    (record {
      starts = omega (arith, ints);
      waits = λ arcs vertex reach h. omega (arith, ints);
      goes = All-weaker (λ way. way.length ≤ℤ pos 1) (GoesOn Q ways from) (λ way one arcs reach h. omega (arith, ints)) ways short;
    }) arcs vertex
