-- How often a wire stands in a list, wires in a run of numbers, and wires that are found.
use Rattle.std.proofs.Common.{◌≡◌, ◌≤◌, ℕ, zero, suc, ◌+◌, Bool, true, false, cond, nat_eq, ◌||◌, List, [], ◌∷◌, ◌++◌, refl, ap, sym, ◌∙◌, arith}
use Rattle.std.proofs.lemmas.Bool.{true≢false}
use Rattle.std.proofs.lemmas.Map.Keys.{IsDistinct-cons, IsDistinct-from_apart}
use Rattle.std.proofs.lemmas.Bool.Decides.{nat_tests}
use Rattle.std.specs.Prelude.{Some, ⊤, nat_lt}
use Rattle.std.specs.List.{IsDistinct, AllByRecursion}
use Rattle.std.specs.Cmp.{nat_eq_equiv}
use Rattle.pulse_net.specs.declared.net.Element.{Element}
use Rattle.pulse_net.specs.Wires.{Wires, found, after_elements, cell_stage}
use Rattle.net_base.specs.Keys.{is_among}
use Rattle.pulse_net.proofs.CallerLemmas.{after_elements-found}

-- one for the wire itself, and nothing for another
pub once : ℕ → ℕ → ℕ
once wire other = cond (nat_eq wire other) 1 0

-- how often a wire stands in a list
abbrev pub times : ℕ → List ℕ → ℕ
times wire [] = 0
times wire (other ∷ others) = once wire other + times wire others

pub times-append : (wire : ℕ) (xs ys : List ℕ) → times wire (xs ++ ys) ≡ times wire xs + times wire ys
times-append wire [] ys = omega arith
times-append wire (x ∷ xs) ys = let rest = times-append wire xs ys in omega (arith, rest)

-- `count` wires in order, from one on
abbrev pub run : ℕ → ℕ → List ℕ
run from zero = []
run from (suc count) = from ∷ run (suc from) count

pub run-append : (from m n : ℕ) → run from (m + n) ≡ run from m ++ run (from + m) n
run-append from zero n = let e : from + 0 ≡ from = omega arith in let z : 0 + n ≡ n = omega arith in ap (run from) z ∙ ap (λ k. run k n) (sym e)
run-append from (suc m) n =
    let e : from + suc m ≡ suc from + m = omega arith in
    let z : suc m + n ≡ suc (m + n) = omega arith in
    ap (run from) z ∙ ap (λ xs. from ∷ xs) (run-append (suc from) m n ∙ ap (λ k. run (suc from) m ++ run k n) (sym e))

pub run-split : (from middle m n : ℕ) → from + m ≡ middle → run from (m + n) ≡ run from m ++ run middle n
run-split from middle m n e = run-append from m n ∙ ap (λ k. run from m ++ run k n) e

-- the wires after elements, where an element makes its wires
abbrev pub after : Wires ℕ → List Element → Wires ℕ
after made elements = after_elements 0 cell_stage made elements

-- each of these wires is found, and carries this
abbrev pub AreFound : {A : Type 0} → Wires A → A → List ℕ → Type 0
AreFound made stage [] = ⊤
AreFound made stage (wire ∷ wires) = (found made wire ≡ Some stage) × AreFound made stage wires

pub AreFound-append : {A : Type 0} (made : Wires A) (stage : A) (xs ys : List ℕ) → AreFound made stage xs → AreFound made stage ys → AreFound made stage (xs ++ ys)
AreFound-append made stage [] ys before rest = rest
AreFound-append made stage (x ∷ xs) ys before rest = (before.0, AreFound-append made stage xs ys before.1 rest)

pub AreFound-stay : (made : Wires ℕ) (elements : List Element) (stage : ℕ) (wires : List ℕ) → AreFound made stage wires → AreFound (after made elements) stage wires
AreFound-stay made elements stage [] h = h
AreFound-stay made elements stage (wire ∷ wires) h = (after_elements-found 0 cell_stage made elements wire stage h.0, AreFound-stay made elements stage wires h.1)

pub once-same : (wire other : ℕ) → nat_eq wire other ≡ true → once wire other ≡ 1
unfolding once
once-same wire other e = ap (λ b. cond b 1 0) e

pub once-other : (wire other : ℕ) → nat_eq wire other ≡ false → once wire other ≡ 0
unfolding once
once-other wire other e = ap (λ b. cond b 1 0) e

-- below one number more
pub nat_lt-next : (k limit : ℕ) → nat_lt k (limit + 1) ≡ (nat_lt k limit || nat_eq limit k)
nat_lt-next k limit = grind (arith, nat_tests)

-- where a wire stands nowhere, and where none stands twice
apart-once : (wire : ℕ) (wires : List ℕ) → times wire wires ≡ 0 → AllByRecursion (λ y. nat_eq wire y ≡ false) wires
apart-once wire [] h = tt
apart-once wire (other ∷ wires) h = (by (nat_eq wire other) refl, apart-once wire wires (omega arith))
  where
    by : (here : Bool) → nat_eq wire other ≡ here → here ≡ false
    by true e = let o = once-same wire other e in absurd (omega (arith, o, h))
    by false e = refl

pub distinct-once : (wires : List ℕ) → ((wire : ℕ) → times wire wires ≤ 1) → IsDistinct nat_eq wires
distinct-once [] h = IsDistinct-from_apart nat_eq [] (λ i j d before within. absurd (omega arith))
distinct-once (wire ∷ wires) h =
    let here = h wire in
    let one = once-same wire wire (nat_eq_equiv.refl wire) in
    IsDistinct-cons nat_eq wire wires (apart-once wire wires (omega (arith, here, one))) (distinct-once wires (λ other. let o = h other in omega (arith, o)))

pub among-times : (wires : List ℕ) (wire : ℕ) → is_among nat_eq wire wires ≡ true → 1 ≤ times wire wires
among-times [] wire h = absurd (true≢false (sym h))
among-times (other ∷ wires) wire h = by (nat_eq wire other) refl (among-times wires wire) h
  where
    by : (here : Bool) → nat_eq wire other ≡ here → (is_among nat_eq wire wires ≡ true → 1 ≤ times wire wires) → (here || is_among nat_eq wire wires) ≡ true → 1 ≤ once wire other + times wire wires
    by true e rest h = let o = once-same wire other e in omega (arith, o)
    by false e rest h = let r = rest h in omega (arith, r)

pub times-among : (wires : List ℕ) (wire : ℕ) → 1 ≤ times wire wires → is_among nat_eq wire wires ≡ true
times-among [] wire h = absurd (omega arith)
times-among (other ∷ wires) wire h = by (nat_eq wire other) refl (times-among wires wire)
  where
    by : (here : Bool) → nat_eq wire other ≡ here → (1 ≤ times wire wires → is_among nat_eq wire wires ≡ true) → (here || is_among nat_eq wire wires) ≡ true
    by true e rest = refl
    by false e rest = let o = once-other wire other e in rest (omega (arith, o, h))
