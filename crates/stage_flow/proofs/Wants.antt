-- What vertices want, where drivers stand, and what it says of units that a mirror wants, or that a vertex has still to send.
use Rattle.std.proofs.Common.{◌≡◌, ◌<◌, ◌≤◌, ◌+◌, ◌-◌, ◌*◌, ◌==◌, ◌∙◌, ℕ, zero, suc, ℤ, pos, negsuc, ◌+ℤ◌, ◌-ℤ◌, ◌≤ℤ◌, Bool, true, false, cond, ◌&&◌, nat_lt, nat_le, int_lt, refl, sym, ap, arith, ⊎_elim}
use Rattle.std.proofs.lemmas.Bool.{cases_lt, and_parts}
use Rattle.std.proofs.lemmas.Bool.Decides.{nat_tests}
use Rattle.std.proofs.lemmas.Int.{ints}
use Rattle.flow_net.specs.declared.net.Net.{Net}
use Rattle.flow_net.specs.declared.net.Flow.{Flow}
use Rattle.flow_net.specs.Arcs.{mirror_of}
use Rattle.flow_net.specs.Flows.{units_out, units_in, out_minus_in, wants}
use Rattle.flow_net.proofs.CallerLemmas.{below, home}
use Rattle.stage_flow.specs.Residual.{vertex_count}
use Rattle.stage_flow.specs.Rounds.{is_wanting, has_to_send}

-- ---- What vertices want
pub wants-source : (net : Net) → wants net 0 ≡ pos (net.drivers - net.gates)
wants-source net = refl

pub wants-mirror : (net : Net) (driver : ℕ) → driver < net.drivers → wants net (mirror_of net driver) ≡ negsuc 0
wants-mirror net driver low =
    let k = net.gates + 1 + driver in
    let e : mirror_of net driver ≡ suc k = omega arith in
    ap (wants net) e ∙ at k (omega arith) (omega arith)
  where
    at : (k : ℕ) → net.gates < k → k < net.gates + 1 + net.drivers → wants net (suc k) ≡ negsuc 0
    at k high low =
        let test : nat_lt k net.gates ≡ false = grind (arith, nat_tests) in
        let other : (k == net.gates) ≡ false = grind (arith, nat_tests) in
        let mirror : nat_lt k (net.gates + 1 + net.drivers) ≡ true = grind (arith, nat_tests) in
        rw (test, other, mirror) refl

pub wants-past : (net : Net) (vertex : ℕ) → vertex_count net ≤ vertex → wants net vertex ≡ pos 0
wants-past net zero past = absurd (omega arith)
wants-past net (suc k) past = at k (omega arith)
  where
    at : (k : ℕ) → net.gates + 1 + net.drivers ≤ k → wants net (suc k) ≡ pos 0
    at k past =
        let test : nat_lt k net.gates ≡ false = grind (arith, nat_tests) in
        let other : (k == net.gates) ≡ false = grind (arith, nat_tests) in
        let mirror : nat_lt k (net.gates + 1 + net.drivers) ≡ false = grind (arith, nat_tests) in
        rw (test, other, mirror) refl

-- ---- Where drivers stand
pub home-input : (net : Net) (driver : ℕ) → driver < net.drivers - net.gates → home net driver ≡ 0
home-input net driver low =
    let test : nat_lt driver (net.drivers - net.gates) ≡ true = grind (arith, nat_tests) in
    ap (λ b. cond b 0 (suc (driver - (net.drivers - net.gates)))) test

pub home-gate : (net : Net) (k : ℕ) → home net (net.drivers - net.gates + k) ≡ suc k
home-gate net k =
    let driver = net.drivers - net.gates + k in
    let test : nat_lt driver (net.drivers - net.gates) ≡ false = grind (arith, nat_tests) in
    let same : suc (driver - (net.drivers - net.gates)) ≡ suc k = omega arith in
    ap (λ b. cond b 0 (suc (driver - (net.drivers - net.gates)))) test ∙ same

-- A sum over all drivers, at what their vertices have: the source's as often as there are used inputs, and that of each gate.
module _ (net : Net) (p : ℕ → ℕ) where
  abbrev inputs : ℕ
  inputs = net.drivers - net.gates

  abbrev at_home : ℕ → ℕ
  at_home driver = p (home net driver)

  sources : (n : ℕ) → n ≤ inputs → below at_home n ≡ p 0 * n
  sources zero within = omega arith
  sources (suc n) within = let here = ap p (home-input net n (omega arith)) in omega (arith, sources n (omega arith), here)

  gates : (n : ℕ) → below at_home (inputs + n) ≡ p 0 * inputs + below (λ k. p (suc k)) n
  gates zero = let e : inputs + 0 ≡ inputs = omega arith in let f = ap (below at_home) e in omega (arith, f, sources inputs (omega arith))
  gates (suc n) =
      let e : inputs + suc n ≡ suc (inputs + n) = omega arith in
      let f = ap (below at_home) e in
      let here = ap p (home-gate net n) in
      omega (arith, f, gates n, here)

  pub below-homes : net.gates ≤ net.drivers → below (λ driver. p (home net driver)) net.drivers ≡ p 0 * (net.drivers - net.gates) + below (λ k. p (suc k)) net.gates
  below-homes few =
      let all : inputs + net.gates ≡ net.drivers = omega arith in
      let whole = ap (below at_home) all in
      omega (arith, whole, gates net.gates)

-- ---- What wanting says
and_true : (a b c : Bool) → (a && (b && c)) ≡ true → (a ≡ true) × (b ≡ true) × (c ≡ true)
and_true true true true h = (refl, refl, refl)
and_true true true false h = absurd (cc)
and_true true false c h = absurd (cc)
and_true false b c h = absurd (cc)

and_false : (a b c : Bool) → a ≡ true → b ≡ true → (a && (b && c)) ≡ false → c ≡ false
and_false true true c p q h = h
and_false true false c p q h = absurd (cc)
and_false false b c p q h = absurd (cc)

not_less : (out into : ℕ) → int_lt (negsuc 0) (pos out -ℤ pos into) ≡ false → out + 1 ≤ into
not_less out into h = grind (arith, ints)

is_less : (out into : ℕ) → int_lt (negsuc 0) (pos out -ℤ pos into) ≡ true → into ≤ out
is_less out into h = grind (arith, ints)

-- A mirror that doesn't want has received a unit,
pub served : (net : Net) (flow : Flow) (driver : ℕ) → driver < net.drivers → is_wanting net flow (mirror_of net driver) ≡ false → units_out net flow (mirror_of net driver) + 1 ≤ units_in net flow (mirror_of net driver)
served net flow driver low wanting =
    let v = mirror_of net driver in
    let a : nat_le (net.gates + 2) v ≡ true = grind (arith, nat_tests) in
    let b : nat_lt v (vertex_count net) ≡ true = grind (arith, nat_tests) in
    not_less (units_out net flow v) (units_in net flow v)
    (sym (ap (λ want. int_lt want (out_minus_in net flow v)) (wants-mirror net driver low))
    ∙ and_false (nat_le (net.gates + 2) v) (nat_lt v (vertex_count net)) (int_lt (wants net v) (out_minus_in net flow v)) a b wanting)

-- and a vertex that wants is a mirror that has received nothing.
pub wanting-mirror : (net : Net) (flow : Flow) (vertex : ℕ) → is_wanting net flow vertex ≡ true → (driver : ℕ) × (driver < net.drivers) × (vertex ≡ mirror_of net driver) × (units_in net flow vertex ≤ units_out net flow vertex)
wanting-mirror net flow vertex wanting =
    let all = and_true (nat_le (net.gates + 2) vertex) (nat_lt vertex (vertex_count net)) (int_lt (wants net vertex) (out_minus_in net flow vertex)) wanting in
    let a : nat_le (net.gates + 2) vertex ≡ true = all.0 in
    let b : nat_lt vertex (vertex_count net) ≡ true = all.1 in
    let high : net.gates + 2 ≤ vertex = grind (arith, nat_tests) in
    let low : vertex < vertex_count net = grind (arith, nat_tests) in
    let driver = vertex - (net.gates + 2) in
    let few : driver < net.drivers = omega arith in
    let here : vertex ≡ mirror_of net driver = omega arith in
    let want : wants net vertex ≡ negsuc 0 = ap (wants net) here ∙ wants-mirror net driver few in (
      driver,
      few,
      here,
      is_less (units_out net flow vertex) (units_in net flow vertex) (sym (ap (λ want. int_lt want (out_minus_in net flow vertex)) want) ∙ all.2),
    )

-- So a mirror that has received nothing wants.
less_is : (out into : ℕ) → into ≤ out → int_lt (negsuc 0) (pos out -ℤ pos into) ≡ true
less_is out into h = grind (arith, ints)

pub mirror-wanting : (net : Net) (flow : Flow) (driver : ℕ) → driver < net.drivers → units_in net flow (mirror_of net driver) ≤ units_out net flow (mirror_of net driver) → is_wanting net flow (mirror_of net driver) ≡ true
mirror-wanting net flow driver low nothing =
    let v = mirror_of net driver in
    let a : nat_le (net.gates + 2) v ≡ true = grind (arith, nat_tests) in
    let b : nat_lt v (vertex_count net) ≡ true = grind (arith, nat_tests) in
    let c : int_lt (wants net v) (out_minus_in net flow v) ≡ true =
    ap (λ want. int_lt want (out_minus_in net flow v)) (wants-mirror net driver low) ∙ less_is (units_out net flow v) (units_in net flow v) nothing in
    all_true (nat_le (net.gates + 2) v) (nat_lt v (vertex_count net)) (int_lt (wants net v) (out_minus_in net flow v)) a b c
  where
    all_true : (a b c : Bool) → a ≡ true → b ≡ true → c ≡ true → (a && (b && c)) ≡ true
    all_true a b c p q r = rw (p, q, r) refl

-- ---- Who has to send
-- how many units a vertex below the mirrors is to send
abbrev pub to_send : Net → ℕ → ℕ
to_send net zero = net.drivers - net.gates
to_send net (suc k) = cond (nat_lt k net.gates) 1 0

pub wants-to_send : (net : Net) (vertex : ℕ) → vertex < net.gates + 2 → wants net vertex ≡ pos (to_send net vertex)
wants-to_send net zero low = refl
wants-to_send net (suc k) low =
    ⊎_elim {C = wants net (suc k) ≡ pos (to_send net (suc k))} (λ less. gate less) (λ past. let e : k ≡ net.gates = omega arith in sink e) (cases_lt k net.gates)
  where
    gate : k < net.gates → wants net (suc k) ≡ pos (to_send net (suc k))
    gate less = let test : nat_lt k net.gates ≡ true = grind (arith, nat_tests) in rw test refl

    sink : k ≡ net.gates → wants net (suc k) ≡ pos (to_send net (suc k))
    sink e =
        let test : nat_lt k net.gates ≡ false = grind (arith, nat_tests) in
        let same : (k == net.gates) ≡ true = grind (arith, nat_tests) in
        rw (test, same) refl

-- Together they are to send a unit for each driver.
pub below-to_send : (net : Net) → net.gates ≤ net.drivers → below (to_send net) (net.gates + 2) ≡ net.drivers
below-to_send net few =
    let e : net.gates + 2 ≡ suc (suc net.gates) = omega arith in
    let f = ap (below (to_send net)) e in
    let test : nat_lt net.gates net.gates ≡ false = grind (arith, nat_tests) in
    let none : to_send net (suc net.gates) ≡ 0 = ap (λ b. cond b 1 0) test in
    omega (arith, f, none, gates net.gates (omega arith))
  where
    gates : (n : ℕ) → n ≤ net.gates → below (to_send net) (suc n) ≡ net.drivers - net.gates + n
    gates zero within = omega arith
    gates (suc n) within =
        let test : nat_lt n net.gates ≡ true = grind (arith, nat_tests) in
        let one : to_send net (suc n) ≡ 1 = ap (λ b. cond b 1 0) test in
        omega (arith, one, gates n (omega arith))

-- Past the sink no vertex is to send.
pub wants-high : (net : Net) (vertex : ℕ) → net.gates + 2 ≤ vertex → wants net vertex ≤ℤ pos 0
wants-high net vertex high =
    ⊎_elim {C = wants net vertex ≤ℤ pos 0}
    (λ less.
    let driver = vertex - (net.gates + 2) in
    let e : vertex ≡ mirror_of net driver = omega arith in
    let want : wants net vertex ≡ negsuc 0 = ap (wants net) e ∙ wants-mirror net driver (omega arith) in
    omega (arith, ints, want))
    (λ past. omega (arith, ints, wants-past net vertex past))
    (cases_lt vertex (vertex_count net))

below_is : (a b : ℤ) → int_lt a b ≡ true → (a +ℤ pos 1) ≤ℤ b
below_is a b h = grind (arith, ints)

-- A vertex that has to send is the source or a gate, and has sent less than it is to.
pub sender-low : (net : Net) (flow : Flow) (vertex : ℕ) → has_to_send net flow vertex ≡ true → (vertex < net.gates + 2) × ((out_minus_in net flow vertex +ℤ pos 1) ≤ℤ wants net vertex)
sender-low net flow vertex sends =
    let both = and_parts (int_lt (pos 0) (wants net vertex)) (int_lt (out_minus_in net flow vertex) (wants net vertex)) sends in
    let some = below_is (pos 0) (wants net vertex) both.0 in
    let more = below_is (out_minus_in net flow vertex) (wants net vertex) both.1 in (
      ⊎_elim {C = vertex < net.gates + 2} (λ less. less) (λ past. let none = wants-high net vertex past in absurd (omega (arith, ints, some, none))) (cases_lt vertex (net.gates + 2)),
      more,
    )

less_sent : (out into most : ℕ) → out < into + most → 0 < most → (int_lt (pos 0) (pos most) && int_lt (pos out -ℤ pos into) (pos most)) ≡ true
less_sent out into most less some = grind (arith, ints)

pub vertex-sends : (net : Net) (flow : Flow) (vertex : ℕ) → vertex < net.gates + 2 → 0 < to_send net vertex → units_out net flow vertex < units_in net flow vertex + to_send net vertex → has_to_send net flow vertex ≡ true
vertex-sends net flow vertex low some less =
    ap (λ want. int_lt (pos 0) want && int_lt (out_minus_in net flow vertex) want) (wants-to_send net vertex low)
    ∙ less_sent (units_out net flow vertex) (units_in net flow vertex) (to_send net vertex) less some
