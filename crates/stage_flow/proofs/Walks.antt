-- Walks in a residual network: how far they go, one after another, and when a reach is no better than another.
use Rattle.std.proofs.Common.{◌≡◌, ◌≤◌, ◌+◌, ◌∙◌, ◌++◌, ℕ, ◌+ℤ◌, ◌≤ℤ◌, true, false, List, [], ◌∷◌, length, Contains, refl, ap, sym, arith}
use Rattle.std.proofs.lemmas.Bool.Decides.{nat_tests}
use Rattle.std.proofs.lemmas.Int.{ints}
use Rattle.stage_flow.specs.Residual.{Way}
use Rattle.stage_flow.specs.Longest.{Reach, is_better}
use Rattle.stage_flow.specs.LawsOfWalks.{IsWalk, reach_of}

-- A reach is no better than another: no longer, and where as long, with no fewer arcs.
pub record IsNoBetter (a b : Reach) : Type 0 where
  pub no_longer : a.length ≤ℤ b.length
  pub no_fewer : a.length ≡ b.length → b.hops ≤ a.hops

pub no_better-test : (a b : Reach) → is_better a b ≡ false → IsNoBetter a b
no_better-test a b test = record { no_longer = grind (arith, ints, nat_tests); no_fewer = λ same. grind (arith, ints, nat_tests) }

pub test-no_better : (a b : Reach) → IsNoBetter a b → is_better a b ≡ false
test-no_better a b less = grind (arith, ints, nat_tests, less.no_longer, less.no_fewer)

pub better-no_better : (a b : Reach) → is_better a b ≡ true → IsNoBetter b a
better-no_better a b test = record { no_longer = grind (arith, ints, nat_tests); no_fewer = λ same. grind (arith, ints, nat_tests) }

pub no_better-same : (a : Reach) → IsNoBetter a a
no_better-same a = record { no_longer = omega (arith, ints); no_fewer = λ same. omega arith }

pub no_better-through : (a b c : Reach) → IsNoBetter a b → IsNoBetter b c → IsNoBetter a c
no_better-through a b c first second = record {
  no_longer = omega (arith, ints, first.no_longer, second.no_longer);
  no_fewer = λ same.
      let left : a.length ≡ b.length = omega (arith, ints, first.no_longer, second.no_longer) in
      let right : b.length ≡ c.length = omega (arith, ints, first.no_longer, second.no_longer) in
      omega (arith, first.no_fewer left, second.no_fewer right);
}

pub reach-same : (a b : Reach) → a.length ≡ b.length → a.hops ≡ b.hops → a ≡ b
reach-same a b long many = λ i. record { length = long i; hops = many i }

-- One reach and then another, and a reach and then an arc.
abbrev pub both : Reach → Reach → Reach
both a b = record { length = a.length +ℤ b.length; hops = a.hops + b.hops }

abbrev pub then_way : Reach → Way → Reach
then_way reach way = record { length = reach.length +ℤ way.length; hops = reach.hops + 1 }

pub no_better-both : (a b c : Reach) → IsNoBetter a b → IsNoBetter (both a c) (both b c)
no_better-both a b c first = record {
  no_longer = omega (arith, ints, first.no_longer);
  no_fewer = λ same. let left : a.length ≡ b.length = omega (arith, ints) in omega (arith, first.no_fewer left);
}

pub no_better-way : (a b : Reach) (way : Way) → IsNoBetter a b → IsNoBetter (then_way a way) (then_way b way)
no_better-way a b way first = no_better-both a b (record { length = way.length; hops = 1 }) first

-- Two reaches, neither of which is better, are one.
pub reach-tied : (a b : Reach) → IsNoBetter a b → IsNoBetter b a → a ≡ b
reach-tied a b first second =
    let long : a.length ≡ b.length = omega (arith, ints, first.no_longer, second.no_longer) in
    let back : b.length ≡ a.length = omega (arith, ints, first.no_longer, second.no_longer) in
    reach-same a b long (let many : a.hops ≡ b.hops = omega (arith, first.no_fewer long, second.no_fewer back) in many)

-- A walk goes on by an arc.
pub walk-push : (ways : List Way) (from to : ℕ) (walk : List Way) (way : Way) → IsWalk ways from to walk → Contains ways way → way.tail ≡ to → IsWalk ways from way.head (walk ++ way ∷ [])
walk-push ways from to [] way here there begins = (there, begins ∙ sym here, refl)
walk-push ways from to (first ∷ walk) way (there', begins', rest) there begins = (there', begins', walk-push ways first.head to walk way rest there begins)

pub reach_of-push : (walk : List Way) (way : Way) → reach_of (walk ++ way ∷ []) ≡ then_way (reach_of walk) way
reach_of-push [] way = reach-same (reach_of (way ∷ [])) (then_way (reach_of []) way) (omega (arith, ints)) (omega arith)
reach_of-push (first ∷ walk) way =
    let rest = reach_of-push walk way in
    let long = ap (λ (reach : Reach). reach.length) rest in
    let many = ap (λ (reach : Reach). reach.hops) rest in
    reach-same (reach_of (first ∷ (walk ++ way ∷ []))) (then_way (reach_of (first ∷ walk)) way) (omega (arith, ints, long)) (omega (arith, many))

-- A walk has as many arcs as its reach tells.
pub hops-is_length : (walk : List Way) → (reach_of walk).hops ≡ length walk
hops-is_length [] = refl
hops-is_length (way ∷ walk) = let rest = hops-is_length walk in omega arith
