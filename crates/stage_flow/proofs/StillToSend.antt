-- How many units are still to be sent, how many mirrors want one, and who sends next. The mirrors that want are counted by the list of
-- them, and the units that are to be sent by what vertices want; both are what is left of one unit for each driver.
use Rattle.std.proofs.Common.{◌≡◌, ◌<◌, ◌≤◌, ◌+◌, ◌-◌, ◌∙◌, ℕ, zero, suc, pos, Bool, true, false, cond, ◌&&◌, nat_le, nat_lt, int_lt, List, [], ◌∷◌, length, filter, find, Option, Some, All, refl, sym, ap, arith, ⊎_elim}
use Rattle.std.specs.List.{range_with_len}
use Rattle.std.proofs.lemmas.Bool.{cases_lt}
use Rattle.std.proofs.lemmas.Bool.Decides.{nat_tests}
use Rattle.std.proofs.lemmas.Int.{ints}
use Rattle.flow_net.specs.declared.net.Net.{Net}
use Rattle.flow_net.specs.declared.net.Flow.{Flow}
use Rattle.flow_net.specs.Network.{network_of}
use Rattle.flow_net.specs.Arcs.{mirror_of}
use Rattle.flow_net.specs.Flows.{out_minus_in, wants}
use Rattle.flow_net.proofs.CallerLemmas.{below}
use Rattle.stage_flow.specs.Residual.{vertex_count}
use Rattle.stage_flow.specs.Rounds.{has_to_send, sender, is_wanting, wanting}
use Rattle.stage_flow.specs.LawsOfSending.{IsPartFlow, SomeVertexHasToSend, left_to_send, AsManyWantAsAreToSend}
use Rattle.stage_flow.proofs.Linked.{IsUpward, pins-upward}
use Rattle.stage_flow.proofs.Counting.{one_in, below-same}
use Rattle.stage_flow.proofs.Wants.{to_send, wants-to_send, served, wanting-mirror}
use Rattle.stage_flow.proofs.AllRounds.{sent_by, received_by, received-le, left-wanted}

-- ---- Counting over a range
below-first : (f : ℕ → ℕ) (n : ℕ) → below f (suc n) ≡ f 0 + below (λ k. f (suc k)) n
below-first f zero = omega arith
below-first f (suc n) = omega (arith, below-first f n)

length-cond : (b : Bool) (x : ℕ) (xs : List ℕ) → length (cond b (x ∷ xs) xs) ≡ cond b 1 0 + length xs
length-cond true x xs = omega arith
length-cond false x xs = omega arith

pub length-filter_range : (test : ℕ → Bool) (a n : ℕ) → length (filter test (range_with_len a n)) ≡ below (λ k. one_in test (a + k)) n
length-filter_range test a zero = refl
length-filter_range test a (suc n) =
    let here : a + 0 ≡ a = omega arith in
    let own = ap (one_in test) here in
    let rest = below-same (λ k. one_in test (a + suc k)) (λ k. one_in test (a + 1 + k)) n
    (λ k low. let e : a + 1 + k ≡ a + suc k = omega arith in ap (one_in test) e) in
    omega (
      arith,
      length-cond (test a) a (filter test (range_with_len (a + 1) n)),
      length-filter_range test (a + 1) n,
      below-first (λ k. one_in test (a + k)) n,
      own,
      rest,
    )

-- ---- As many mirrors want as units are to be sent
false_and : (a c : Bool) → a ≡ false → (a && c) ≡ false
false_and a c e = rw e refl

-- No vertex before the mirrors wants.
low-not_wanting : (net : Net) (flow : Flow) (vertex : ℕ) → vertex < net.gates + 2 → is_wanting net flow vertex ≡ false
low-not_wanting net flow vertex low =
    let test : nat_le (net.gates + 2) vertex ≡ false = grind (arith, nat_tests) in
    false_and (nat_le (net.gates + 2) vertex) (nat_lt vertex (vertex_count net) && int_lt (wants net vertex) (out_minus_in net flow vertex)) test

one_wants : (b : Bool) (received : ℕ) → received ≤ 1 → (b ≡ true → received ≡ 0) → (b ≡ false → 0 < received) → cond b 1 0 ≡ 1 - received
one_wants true received most on off = let e = on refl in omega arith
one_wants false received most on off = let some = off refl in omega arith

module _ (net : Net) (flow : Flow) (few : net.gates ≤ net.drivers) (pins : All (IsUpward net) net.pins) (part : IsPartFlow net flow) where
  abbrev wants_one : ℕ → ℕ
  wants_one = one_in (is_wanting net flow)

  mirror-wants_one : (driver : ℕ) → driver < net.drivers → wants_one (net.gates + 2 + driver) ≡ 1 - received_by net flow driver
  mirror-wants_one driver low =
      let v = mirror_of net driver in
      one_wants (is_wanting net flow v) (received_by net flow driver) (received-le net flow few pins part driver low)
      (λ wanting.
      let found = wanting-mirror net flow v wanting in
      let nothing = found.3 in
      omega (arith, nothing))
      (λ not_wanting. let some = served net flow driver low not_wanting in omega (arith, some))

  none-before : (n : ℕ) → n ≤ net.gates + 2 → below wants_one n ≡ 0
  none-before zero within = refl
  none-before (suc n) within =
      let none = ap (λ (b : Bool). let one : ℕ = cond b 1 0 in one) (low-not_wanting net flow n (omega arith)) in
      omega (arith, none-before n (omega arith), none)

  mirrors-counted : (n : ℕ) → n ≤ net.drivers → below wants_one (net.gates + 2 + n) ≡ below (λ driver. 1 - received_by net flow driver) n
  mirrors-counted zero within =
      let e : net.gates + 2 + 0 ≡ net.gates + 2 = omega arith in
      let f = ap (below wants_one) e in
      omega (arith, f, none-before (net.gates + 2) (omega arith))
  mirrors-counted (suc n) within =
      let e : net.gates + 2 + suc n ≡ suc (net.gates + 2 + n) = omega arith in
      let f = ap (below wants_one) e in
      omega (arith, f, mirrors-counted n (omega arith), mirror-wants_one n (omega arith))

  left-counted : (n : ℕ) → n ≤ net.gates + 2 → left_to_send net flow n ≡ pos (below (λ vertex. to_send net vertex - sent_by net flow vertex) n)
  left-counted zero within = refl
  left-counted (suc n) within =
      let sent = part.sent n (omega arith) in
      omega (arith, ints, left-counted n (omega arith), sent.0, sent.1, wants-to_send net n (omega arith))

  pub left-is-wanted : left_to_send net flow (net.gates + 2) ≡ pos (length (wanting net flow))
  left-is-wanted =
      omega (
        arith,
        ints,
        left-counted (net.gates + 2) (omega arith),
        left-wanted net flow few pins part,
        mirrors-counted net.drivers (omega arith),
        length-filter_range (is_wanting net flow) 0 (vertex_count net),
        below-same wants_one (λ k. wants_one (0 + k)) (vertex_count net) (λ k low. let e : 0 + k ≡ k = omega arith in ap wants_one e),
      )

pub as_many-want : AsManyWantAsAreToSend
as_many-want net phases flow formed part = left-is-wanted (network_of net phases) flow (omega arith) (pins-upward net phases formed) part

-- ---- Who sends next
-- what was found is the first number from a on that passes
abbrev pub IsFirst : (ℕ → Bool) → ℕ → Option ℕ → Type 0
IsFirst test a found = (first : ℕ) × (found ≡ Some first) × (test first ≡ true) × ((j : ℕ) → a ≤ j → j < first → test j ≡ false)

pub find-range : (test : ℕ → Bool) (a n k : ℕ) → a ≤ k → k < a + n → test k ≡ true → IsFirst test a (find test (range_with_len a n))
find-range test a zero k from low passes = absurd (omega arith)
find-range test a (suc n) k from low passes = by (test a) refl (λ next. find-range test (a + 1) n k next (omega arith) passes)
  where
    by : (b : Bool) → test a ≡ b → (a + 1 ≤ k → IsFirst test (a + 1) (find test (range_with_len (a + 1) n))) → IsFirst test a (cond b (Some a) (find test (range_with_len (a + 1) n)))
    by true e rest = (a, refl, e, λ j high below. absurd (omega (arith, high, below)))
    by false e rest =
        let next : a + 1 ≤ k =
        ⊎_elim {C = a + 1 ≤ k} (λ less. omega arith) (λ no_less. let same : k ≡ a = omega arith in let clash = ap test same in absurd (cc)) (cases_lt a k) in
        let found = rest next in (
          found.0,
          found.1,
          found.2,
          λ j high below.
              ⊎_elim {C = test j ≡ false} (λ less. found.3 j (omega (arith, less)) below)
              (λ no_less. let same : j ≡ a = omega (arith, no_less, high) in ap test same ∙ e) (cases_lt a j),
        )

-- While some vertex has to send there is a sender, the lowest of them.
pub sender-found : (net : Net) (flow : Flow) → SomeVertexHasToSend net flow → (vertex : ℕ) × (sender net flow ≡ Some vertex) × (has_to_send net flow vertex ≡ true) × ((lower : ℕ) → lower < vertex → has_to_send net flow lower ≡ false)
sender-found net flow (vertex, low, sends) =
    let found = find-range (has_to_send net flow) 0 (vertex_count net) vertex (omega arith) (omega (arith, low)) sends in
    (found.0, found.1, found.2, λ lower below. found.3 lower (omega arith) below)

-- A sender has to send.
found-passes : (test : ℕ → Bool) (xs : List ℕ) (one : ℕ) → find test xs ≡ Some one → test one ≡ true
found-passes test [] one e = absurd (cc)
found-passes test (x ∷ xs) one e = by (test x) refl e (found-passes test xs one)
  where
    by : (b : Bool) → test x ≡ b → cond b (Some x) (find test xs) ≡ Some one → (find test xs ≡ Some one → test one ≡ true) → test one ≡ true
    by true here e rest = let same : x ≡ one = cc in sym (ap test same) ∙ here
    by false here e rest = rest e

pub sender-sends : (net : Net) (flow : Flow) (vertex : ℕ) → sender net flow ≡ Some vertex → has_to_send net flow vertex ≡ true
sender-sends net flow vertex e = found-passes (has_to_send net flow) (range_with_len 0 (vertex_count net)) vertex e
