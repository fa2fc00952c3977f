-- Units sent from one vertex to another change the balances of the two.
use Rattle.std.proofs.Common.{◌≡◌, ◌≢◌, subst, ◌<◌, ◌==◌, ◌∙◌, ℕ, ℤ, pos, ◌+ℤ◌, ◌-ℤ◌, Bool, true, false, cond, List, length, get_or, set, refl, ap, arith, get_or-set_other, get_or-set_same, length-set}
use Rattle.std.proofs.lemmas.Bool.Decides.{nat_tests}
use Rattle.std.proofs.lemmas.Int.{ints}
use Rattle.flow_cert.specs.Sums.{IsNear}

-- one entry changed
changed : (xs : List ℤ) (place : ℕ) (change : ℤ) (v : ℕ) → place < length xs → get_or (set xs place (get_or xs place (pos 0) +ℤ change)) v (pos 0) ≡ get_or xs v (pos 0) +ℤ cond (place == v) change (pos 0)
changed xs place change v within = by (place == v) refl
  where
    by : (b : Bool) → (place == v) ≡ b → get_or (set xs place (get_or xs place (pos 0) +ℤ change)) v (pos 0) ≡ get_or xs v (pos 0) +ℤ cond b change (pos 0)
    by true test =
        let same : place ≡ v = grind (arith, nat_tests) in
        subst (λ w. get_or (set xs place (get_or xs place (pos 0) +ℤ change)) w (pos 0) ≡ get_or xs w (pos 0) +ℤ change) same (rw get_or-set_same refl)
    by false test =
        let other : v ≢ place = grind (arith, nat_tests) in
        rw get_or-set_other (omega (arith, ints))

pub sent : (xs ys zs : List ℤ) (tail head units : ℕ) (more less : ℤ) → tail < length xs → head < length xs → more ≡ pos units → less ≡ pos 0 -ℤ pos units → ys ≡ set xs tail (get_or xs tail (pos 0) +ℤ more) → zs ≡ set ys head (get_or ys head (pos 0) +ℤ less)
    → (v : ℕ) → get_or zs v (pos 0) ≡ (get_or xs v (pos 0) +ℤ cond (tail == v) (pos units) (pos 0)) -ℤ cond (head == v) (pos units) (pos 0)
sent xs ys zs tail head units more less tail_in head_in is_more is_less first second v =
    let long : length ys ≡ length xs = ap length first ∙ length-set xs tail (get_or xs tail (pos 0) +ℤ more) in
    let one = ap (λ list. get_or list v (pos 0)) first ∙ changed xs tail more v tail_in in
    let two = ap (λ list. get_or list v (pos 0)) second ∙ changed ys head less v (omega (arith, long)) in
    by (tail == v) (head == v) (get_or xs v (pos 0)) (get_or ys v (pos 0)) (get_or zs v (pos 0)) one two
  where
    by : (t h : Bool) (x y z : ℤ) → y ≡ x +ℤ cond t more (pos 0) → z ≡ y +ℤ cond h less (pos 0) → z ≡ (x +ℤ cond t (pos units) (pos 0)) -ℤ cond h (pos units) (pos 0)
    by true true x y z one two = omega (arith, ints, one, two, is_more, is_less)
    by true false x y z one two = omega (arith, ints, one, two, is_more)
    by false true x y z one two = omega (arith, ints, one, two, is_less)
    by false false x y z one two = omega (arith, ints, one, two)

-- So they change little.
pub sent-near : (tail head : Bool) (units : ℕ) (old new : ℤ) → units < 4294967296 → new ≡ (old +ℤ cond tail (pos units) (pos 0)) -ℤ cond head (pos units) (pos 0) → IsNear old new
sent-near true true units old new small is = (omega (arith, ints, is), omega (arith, ints, is))
sent-near true false units old new small is = (omega (arith, ints, is), omega (arith, ints, is))
sent-near false true units old new small is = (omega (arith, ints, is), omega (arith, ints, is))
sent-near false false units old new small is = (omega (arith, ints, is), omega (arith, ints, is))
