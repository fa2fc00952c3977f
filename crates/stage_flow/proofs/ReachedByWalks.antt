-- What walks of at most so many residual arcs reach from a vertex grows with the arcs by a vertex at least, until no residual arc
-- leaves it. So what walks with fewer arcs than there are vertices reach is a region that no residual arc leaves.
use Rattle.std.proofs.Common.{◌≡◌, ◌<◌, ◌≤◌, ◌-◌, ◌==◌, ◌∙◌, ℕ, zero, suc, pos, Bool, true, false, cond, List, [], ◌∷◌, get_or, Option, Some, None, is_some, All, refl, sym, ap, arith, ◌⊎◌, inl, inr, ⊎_elim}
use Rattle.std.specs.Cmp.{nat_eq_equiv}
use Rattle.std.proofs.lemmas.Bool.{cases_lt}
use Rattle.std.proofs.lemmas.Bool.Decides.{Decides-eqb}
use Rattle.std.proofs.lemmas.List.Elements.{All-nil, All-cons, All-head, All-tail, All-weaker}
use Rattle.flow_net.proofs.CallerLemmas.{below}
use Rattle.stage_flow.specs.Residual.{Way}
use Rattle.stage_flow.specs.Longest.{Reach, is_better, better, by_way, best_into, best_within}
use Rattle.stage_flow.specs.LawsOfSending.{NoneLeaves}
use Rattle.stage_flow.proofs.Counting.{one_in, terms-same, below-ones}

-- ---- The better of two
better-left : (a b : Option Reach) → is_some a ≡ true → is_some (better a b) ≡ true
better-left None b h = absurd (cc)
better-left (Some a) None h = refl
better-left (Some a) (Some b) h = by (is_better b a)
  where
    by : (c : Bool) → is_some (cond c (Some b) (Some a)) ≡ true
    by true = refl
    by false = refl

better-right : (a b : Option Reach) → is_some b ≡ true → is_some (better a b) ≡ true
better-right None b h = h
better-right (Some a) b h = better-left (Some a) b refl

better-some : (a b : Option Reach) {C : Type 0} → (is_some a ≡ true → C) → (is_some b ≡ true → C) → is_some (better a b) ≡ true → C
better-some None b left right h = right h
better-some (Some a) b left right h = left refl

by_way-some : (way : Way) (reach : Option Reach) → is_some reach ≡ true → is_some (by_way way reach) ≡ true
by_way-some way None h = h
by_way-some way (Some reach) h = refl

by_way-back : (way : Way) (reach : Option Reach) → is_some (by_way way reach) ≡ true → is_some reach ≡ true
by_way-back way None h = h
by_way-back way (Some reach) h = refl

-- ---- One arc more
-- A residual arc whose tail is reached reaches its head.
into-more : (best : ℕ → Option Reach) (way : Way) (ways : List Way) (vertex : ℕ) → is_some (best_into best ways vertex) ≡ true → is_some (best_into best (way ∷ ways) vertex) ≡ true
into-more best way ways vertex h = by (way.head == vertex)
  where
    by : (b : Bool) → is_some (cond b (better (by_way way (best way.tail)) (best_into best ways vertex)) (best_into best ways vertex)) ≡ true
    by true = better-right (by_way way (best way.tail)) (best_into best ways vertex) h
    by false = h

into-here : (best : ℕ → Option Reach) (way : Way) (ways : List Way) → is_some (best way.tail) ≡ true → is_some (best_into best (way ∷ ways) way.head) ≡ true
into-here best way ways h = by (way.head == way.head) (nat_eq_equiv.refl way.head)
  where
    by : (b : Bool) → b ≡ true → is_some (cond b (better (by_way way (best way.tail)) (best_into best ways way.head)) (best_into best ways way.head)) ≡ true
    by true e = better-left (by_way way (best way.tail)) (best_into best ways way.head) (by_way-some way (best way.tail) h)
    by false e = absurd (cc)

heads-reached : (best : ℕ → Option Reach) (ways : List Way) → All (λ (way : Way). is_some (best way.tail) ≡ true → is_some (best_into best ways way.head) ≡ true) ways
heads-reached best [] = All-nil (λ (way : Way). is_some (best way.tail) ≡ true → is_some (best_into best [] way.head) ≡ true)
heads-reached best (way ∷ ways) =
    let P = λ (one : Way). is_some (best one.tail) ≡ true → is_some (best_into best (way ∷ ways) one.head) ≡ true in
    All-cons P way ways (into-here best way ways)
    (All-weaker (λ (one : Way). is_some (best one.tail) ≡ true → is_some (best_into best ways one.head) ≡ true) P
    (λ one reaches tail. into-more best way ways one.head (reaches tail)) ways (heads-reached best ways))

-- What one arc more reaches is the head of an arc whose tail was reached.
into-region : (best : ℕ → Option Reach) (region : ℕ → Bool) (ways : List Way) (vertex : ℕ) → All (λ (way : Way). is_some (best way.tail) ≡ true → region way.head ≡ true) ways → is_some (best_into best ways vertex) ≡ true → region vertex ≡ true
into-region best region [] vertex all h = absurd (cc)
into-region best region (way ∷ ways) vertex all h =
    by (way.head == vertex) refl h (into-region best region ways vertex (All-tail P way ways all))
  where
    P : Way → Type 0
    P one = is_some (best one.tail) ≡ true → region one.head ≡ true

    by : (b : Bool) → (way.head == vertex) ≡ b → is_some (cond b (better (by_way way (best way.tail)) (best_into best ways vertex)) (best_into best ways vertex)) ≡ true → (is_some (best_into best ways vertex) ≡ true → region vertex ≡ true) → region vertex ≡ true
    by true e some rest =
        let same : way.head ≡ vertex = (Decides-eqb way.head vertex).0 e in
        better-some (by_way way (best way.tail)) (best_into best ways vertex) {C = region vertex ≡ true}
        (λ own. sym (ap region same) ∙ All-head P way ways all (by_way-back way (best way.tail) own)) rest some
    by false e some rest = rest some

-- ---- Growing until nothing leaves
-- a vertex is in the next region and not in this one
abbrev SomeNew : (ℕ → Bool) → (ℕ → Bool) → ℕ → Type 0
SomeNew region next vertices = (vertex : ℕ) × (vertex < vertices) × (region vertex ≡ false) × (next vertex ≡ true)

-- Where the next region has the heads of all arcs from this one, it has a vertex more, or nothing leaves this one.
new-or_none : (region next : ℕ → Bool) (vertices : ℕ) (ways : List Way) → All (λ (way : Way). way.head < vertices) ways → All (λ (way : Way). region way.tail ≡ true → next way.head ≡ true) ways → SomeNew region next vertices ⊎ NoneLeaves ways region
new-or_none region next vertices [] low reach = inr (All-nil (λ (way : Way). region way.tail ≡ true → region way.head ≡ true))
new-or_none region next vertices (way ∷ ways) low reach =
    by (region way.tail) (region way.head) refl refl
    (new-or_none region next vertices ways (All-tail (λ (one : Way). one.head < vertices) way ways low) (All-tail (λ (one : Way). region one.tail ≡ true → next one.head ≡ true) way ways reach))
  where
    P : Way → Type 0
    P one = region one.tail ≡ true → region one.head ≡ true

    with_rest : P way → SomeNew region next vertices ⊎ NoneLeaves ways region → SomeNew region next vertices ⊎ NoneLeaves (way ∷ ways) region
    with_rest own rest = ⊎_elim {C = SomeNew region next vertices ⊎ NoneLeaves (way ∷ ways) region} (λ some. inl some) (λ none. inr (All-cons P way ways own none)) rest

    by : (b c : Bool) → region way.tail ≡ b → region way.head ≡ c → SomeNew region next vertices ⊎ NoneLeaves ways region → SomeNew region next vertices ⊎ NoneLeaves (way ∷ ways) region
    by true false tail head rest =
        inl (way.head, All-head (λ (one : Way). one.head < vertices) way ways low, head, All-head (λ (one : Way). region one.tail ≡ true → next one.head ≡ true) way ways reach tail)
    by b true tail head rest = with_rest (λ h. head) rest
    by false false tail head rest = with_rest (λ h. absurd (cc)) rest

-- Of two sums, one at most the other term by term, the second is greater where a term is.
below-grows : (f g : ℕ → ℕ) (n k : ℕ) → ((j : ℕ) → j < n → f j ≤ g j) → k < n → f k < g k → below f n < below g n
below-grows f g n k each low more =
    ⊎_elim {C = below f n < below g n} (λ less. less)
    (λ whole. let same = terms-same f g n each whole k low in absurd (omega (arith, same, more)))
    (cases_lt (below f n) (below g n))

within-le : (b c : Bool) → (b ≡ true → c ≡ true) → cond b 1 0 ≤ cond c 1 0
within-le true true h = omega arith
within-le true false h = let e = h refl in absurd (cc)
within-le false c h = omega arith

more-within : (b c : Bool) → b ≡ false → c ≡ true → cond b 1 0 < cond c 1 0
more-within b c p q = rw (p, q) (omega arith)

one-within : (b : Bool) → b ≡ true → 0 < cond b 1 0
one-within b p = rw p (omega arith)

all-within : (b : Bool) → 1 ≤ cond b 1 0 → b ≡ true
all-within true h = refl
all-within false h = absurd (omega arith)

at_most_one : (b : Bool) → cond b 1 0 ≤ 1
at_most_one true = omega arith
at_most_one false = omega arith

none-sum : (n : ℕ) → below (λ k. 0) n ≡ 0
none-sum zero = refl
none-sum (suc n) = omega (arith, none-sum n)

module _ (ways : List Way) (from vertices : ℕ) (low : All (λ (way : Way). way.head < vertices) ways) (start : from < vertices) where
  -- what walks of at most so many arcs reach
  abbrev reaches : ℕ → ℕ → Bool
  reaches arcs vertex = is_some (best_within ways from arcs vertex)

  reaches-start : reaches 0 from ≡ true
  reaches-start = by (from == from) (nat_eq_equiv.refl from)
    where
      by : (b : Bool) → b ≡ true → is_some (cond b (Some (let zero_reach : Reach = record { length = pos 0; hops = 0 } in zero_reach)) None) ≡ true
      by true e = refl
      by false e = absurd (cc)

  reaches-more : (arcs vertex : ℕ) → reaches arcs vertex ≡ true → reaches (suc arcs) vertex ≡ true
  reaches-more arcs vertex h = better-left (best_within ways from arcs vertex) (best_into (best_within ways from arcs) ways vertex) h

  reaches-heads : (arcs : ℕ) → All (λ (way : Way). reaches arcs way.tail ≡ true → reaches (suc arcs) way.head ≡ true) ways
  reaches-heads arcs =
      All-weaker (λ (way : Way). is_some (best_within ways from arcs way.tail) ≡ true → is_some (best_into (best_within ways from arcs) ways way.head) ≡ true)
      (λ (way : Way). reaches arcs way.tail ≡ true → reaches (suc arcs) way.head ≡ true)
      (λ way into tail. better-right (best_within ways from arcs way.head) (best_into (best_within ways from arcs) ways way.head) (into tail))
      ways (heads-reached (best_within ways from arcs) ways)

  -- Where nothing leaves, one arc more reaches nothing more.
  reaches-back : (arcs vertex : ℕ) → NoneLeaves ways (reaches arcs) → reaches (suc arcs) vertex ≡ true → reaches arcs vertex ≡ true
  reaches-back arcs vertex none h =
      better-some (best_within ways from arcs vertex) (best_into (best_within ways from arcs) ways vertex) {C = reaches arcs vertex ≡ true} (λ own. own)
      (λ into. into-region (best_within ways from arcs) (reaches arcs) ways vertex none into) h

  none-stays : (arcs : ℕ) → NoneLeaves ways (reaches arcs) → NoneLeaves ways (reaches (suc arcs))
  none-stays arcs none =
      All-weaker (λ (way : Way). reaches arcs way.tail ≡ true → reaches arcs way.head ≡ true)
      (λ (way : Way). reaches (suc arcs) way.tail ≡ true → reaches (suc arcs) way.head ≡ true)
      (λ way stays tail. reaches-more arcs way.head (stays (reaches-back arcs way.tail none tail))) ways none

  -- So nothing leaves what so many arcs reach, or they reach more vertices than their number.
  none-or_more : (arcs : ℕ) → NoneLeaves ways (reaches arcs) ⊎ (arcs < below (one_in (reaches arcs)) vertices)
  none-or_more zero =
      let some = below-grows (λ v. 0) (one_in (reaches 0)) vertices from (λ j less. omega arith) start (one-within (reaches 0 from) reaches-start) in
      inr (omega (arith, some))
  none-or_more (suc arcs) =
      let C = NoneLeaves ways (reaches (suc arcs)) ⊎ (suc arcs < below (one_in (reaches (suc arcs))) vertices) in
      ⊎_elim {C = C} (λ none. inl (none-stays arcs none))
      (λ more.
      ⊎_elim {C = C}
      (λ new.
      let grows = below-grows (one_in (reaches arcs)) (one_in (reaches (suc arcs))) vertices new.0
      (λ j less. within-le (reaches arcs j) (reaches (suc arcs) j) (reaches-more arcs j)) new.1 (more-within (reaches arcs new.0) (reaches (suc arcs) new.0) new.2 new.3) in
      inr (omega (arith, grows, more)))
      (λ none. inl (none-stays arcs none))
      (new-or_none (reaches arcs) (reaches (suc arcs)) vertices ways low (reaches-heads arcs)))
      (none-or_more arcs)

  pub none-leaves_reached : NoneLeaves ways (reaches (vertices - 1))
  none-leaves_reached =
      ⊎_elim {C = NoneLeaves ways (reaches (vertices - 1))} (λ none. none)
      (λ more k d within tail.
      let head = low k d within in
      let one = terms-same (one_in (reaches (vertices - 1))) (λ v. 1) vertices (λ j less. at_most_one (reaches (vertices - 1) j)) (omega (arith, more, below-ones vertices)) (get_or ways k d).head head in
      all-within (reaches (vertices - 1) (get_or ways k d).head) (omega (arith, one)))
      (none-or_more (vertices - 1))

  pub reaches-from : (arcs : ℕ) → reaches arcs from ≡ true
  reaches-from zero = reaches-start
  reaches-from (suc arcs) = reaches-more arcs from (reaches-from arcs)
