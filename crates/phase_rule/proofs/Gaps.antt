-- Gaps in stages and in epochs. A gap n * m + r, with r from 1 to n, needs m DROs: rounding up and taking 1 away cancel.
-- Where the user's phase is greater, r is the gap between the phases and m the gap in epochs. Where it is not, one
-- epoch is borrowed: r is n more than the gap between the phases, and m is one less, which is the weight.
use Rattle.std.proofs.Common.{◌≡◌, ◌<◌, ◌≤◌, ◌+◌, ◌-◌, ◌*◌, ◌/◌, ◌%◌, ◌↔◌, ◌∙◌, ℕ, sym, ap, subst, arith, ⊎_elim}
use Rattle.std.proofs.Math.Nat.{mul-le-mul_left}
use Rattle.std.proofs.lemmas.Nat.{div-mul-add, mod_below}
use Rattle.std.proofs.lemmas.Bool.{cases_lt}
use Rattle.std.proofs.lemmas.Bool.Decides.{nat_tests}
use Rattle.phase_rule.specs.Stages.{stage_of, weight_of, need_over_stages, GapsAgree, NeedLeavesOneWindow}

-- a gap of m windows and a part of one needs m DROs
need_over_stages-windows : (n m r : ℕ) → 0 < r → r ≤ n → need_over_stages n (n * m + r) ≡ m
need_over_stages-windows n m r some short =
    let turned : n * m + r + n - 1 ≡ (m + 1) * n + (r - 1) = omega arith in
    let whole : (n * m + r + n - 1) / n ≡ m + 1 = ap (λ x. x / n) turned ∙ div-mul-add (m + 1) n (r - 1) (omega arith) in
    omega (arith, whole)

-- the user's phase is greater: the weight is 0
weight_of-later : (user driver : ℕ) → driver < user → weight_of user driver ≡ 0
weight_of-later user driver h = grind (arith, nat_tests)

-- and else it is 1
weight_of-earlier : (user driver : ℕ) → user ≤ driver → weight_of user driver ≡ 1
weight_of-earlier user driver h = grind (arith, nat_tests)

-- Stages are in order as epochs are.
stages_apart : (n a p b q : ℕ) → a < b → p < n → n * a + p < n * b + q
stages_apart n a p b q h k = omega (arith, mul-le-mul_left n (let s : a + 1 ≤ b = omega arith in s))

-- the user's phase is greater: the gap in epochs is the number of windows
later : (n m p b q : ℕ) → p < n → q < p → (n * b + q < n * (b + m) + p) × (need_over_stages n ((n * (b + m) + p) - (n * b + q)) ≡ m)
later n m p b q pn h =
    let gap : (n * (b + m) + p) - (n * b + q) ≡ n * m + (p - q) = omega arith in
    (omega arith, ap (need_over_stages n) gap ∙ need_over_stages-windows n m (p - q) (omega arith) (omega arith))

-- it isn't: one window is borrowed
earlier : (n m p b q : ℕ) → p < n → q < n → p ≤ q → (n * b + q < n * (b + (m + 1)) + p) × (need_over_stages n ((n * (b + (m + 1)) + p) - (n * b + q)) ≡ m)
earlier n m p b q pn qn h =
    let gap : (n * (b + (m + 1)) + p) - (n * b + q) ≡ n * m + (n + p - q) = omega arith in
    (omega arith, ap (need_over_stages n) gap ∙ need_over_stages-windows n m (n + p - q) (omega arith) (omega arith))

by_later : (n a p b q w : ℕ) → p < n → q < n → q < p → w ≡ 0 → (n * b + q < n * a + p ↔ b + w ≤ a) × (b + w ≤ a → need_over_stages n ((n * a + p) - (n * b + q)) ≡ a - b - w)
by_later n a p b q w pn qn h zero_weight =
    let at : (b + w ≤ a) → (n * b + q < n * a + p) × (need_over_stages n ((n * a + p) - (n * b + q)) ≡ a - b - w) = λ balanced.
    let split : b + (a - b) ≡ a = omega arith in
    let least : a - b ≡ a - b - w = omega arith in
    let moved = subst (λ x. (n * b + q < n * x + p) × (need_over_stages n ((n * x + p) - (n * b + q)) ≡ a - b)) split (later n (a - b) p b q pn h) in
    (moved.0, moved.1 ∙ least) in (
      (
        λ before. ⊎_elim {C = b + w ≤ a} (λ low. absurd (let apart : n * a + p < n * b + q = stages_apart n a p b q low pn in omega arith)) (λ high. omega arith) (cases_lt a b),
        λ balanced. (at balanced).0,
      ),
      λ balanced. (at balanced).1,
    )

by_earlier : (n a p b q w : ℕ) → p < n → q < n → p ≤ q → w ≡ 1 → (n * b + q < n * a + p ↔ b + w ≤ a) × (b + w ≤ a → need_over_stages n ((n * a + p) - (n * b + q)) ≡ a - b - w)
by_earlier n a p b q w pn qn h one_weight =
    let at : (b + w ≤ a) → (n * b + q < n * a + p) × (need_over_stages n ((n * a + p) - (n * b + q)) ≡ a - b - w) = λ balanced.
    let split : b + ((a - b - w) + 1) ≡ a = omega arith in
    subst (λ x. (n * b + q < n * x + p) × (need_over_stages n ((n * x + p) - (n * b + q)) ≡ a - b - w)) split (earlier n (a - b - w) p b q pn qn h) in (
      (
        λ before. ⊎_elim {C = b + w ≤ a} (λ low. absurd (no_later n a p b q (omega arith) h before)) (λ high. omega arith) (cases_lt a (b + w)),
        λ balanced. (at balanced).0,
      ),
      λ balanced. (at balanced).1,
    )
  where
    no_later : (n a p b q : ℕ) → a ≤ b → p ≤ q → n * b + q < n * a + p → ⊥
    no_later n a p b q low short before = omega (arith, mul-le-mul_left n low)

-- A gap in stages and a gap in epochs give the same need.
pub need_gaps_agree : GapsAgree
need_gaps_agree n a p b q pn qn =
    ⊎_elim {C = (stage_of n b q < stage_of n a p ↔ b + weight_of p q ≤ a) × (b + weight_of p q ≤ a → need_over_stages n (stage_of n a p - stage_of n b q) ≡ a - b - weight_of p q)}
    (λ less. by_later n a p b q (weight_of p q) pn qn less (weight_of-later p q less))
    (λ more. by_earlier n a p b q (weight_of p q) pn qn more (weight_of-earlier p q more))
    (cases_lt q p)

-- A gap's need leaves 1 to n stages: the gap less 1 is split by its quotient and remainder.
pub need_leaves_window : NeedLeavesOneWindow
need_leaves_window n gap some behind =
    let windows = (gap - 1) / n in
    let rest = (gap - 1) % n in
    let short : rest < n = mod_below (gap - 1) n some in
    let split : gap ≡ n * windows + (rest + 1) = omega arith in
    let need : need_over_stages n gap ≡ windows = ap (need_over_stages n) split ∙ need_over_stages-windows n windows (rest + 1) (omega arith) (omega arith) in
    subst (λ m. (n * m < gap) × (gap ≤ n * m + n)) (sym need) (omega arith, omega arith)
