-- The numbers of used inputs: there are no more than uses, and a table of marks counts them.
use Rattle.std.proofs.Common.{◌≡◌, ◌==◌, ◌<◌, ◌≤◌, ◌+◌, ◌||◌, ◌∙◌, ℕ, zero, suc, Bool, true, false, cond, nat_lt, List, [], ◌∷◌, length, map, get_or, All, refl, ap, arith}
use Rattle.std.proofs.lemmas.List.{get_or_read}
use Rattle.std.proofs.lemmas.Bool.Decides.{nat_tests}
use Rattle.std.proofs.lemmas.List.Elements.{All-weaker}
use Rattle.net_base.proofs.CallerLemmas.{bit-le}
use Rattle.gate_net.specs.declared.row.Driver.{Driver}
use Rattle.gate_net.specs.declared.row.Driver.TheVariants.{Input, Gate}
use Rattle.gate_net.specs.declared.net.GateNet.{GateNet}
use Rattle.gate_net.specs.Rows.{same_driver}
use Rattle.gate_net.specs.Net.{IsThere}
use Rattle.gate_net.proofs.CallerLemmas.{map-same}
use Rattle.flow_net.specs.declared.uses.Use.{Use}
use Rattle.flow_net.specs.declared.net.Pin.{Pin}
use Rattle.flow_net.specs.Uses.{is_used, used_below, marked_below, number_by, driver_number, uses_of}
use Rattle.flow_net.specs.Network.{pin_by, pin_of}

-- 1 where the driver is an input below this one
abbrev hit : Driver → ℕ → ℕ
hit (Input j) i = cond (nat_lt j i) 1 0
hit (Gate k) i = 0

hit-le : (driver : Driver) (i : ℕ) → hit driver i ≤ 1
hit-le (Input j) i = bit-le (nat_lt j i)
hit-le (Gate k) i = omega arith

-- Where a test tells the input of the new use, the count of hits moves on; elsewhere it stays.
moved : (e l m b : Bool) → (e ≡ true → (l ≡ false) × (m ≡ true)) → (e ≡ false → l ≡ m) → cond (e || b) 1 0 + cond l 1 0 ≤ cond b 1 0 + cond m 1 0
moved true l m b here apart = let h = here refl in rw (h.0, h.1) (omega arith)
moved false l m b here apart = rw (apart refl) (omega arith)

-- what one input adds, by its test against the new use
step : (i : ℕ) (driver : Driver) (b : Bool) → cond (same_driver (Input i) driver || b) 1 0 + hit driver i ≤ cond b 1 0 + hit driver (suc i)
step i (Gate k) b = omega arith
step i (Input j) b = moved (i == j) (nat_lt j i) (nat_lt j (suc i)) b (passed i j) (kept i j)
  where
    passed : (i j : ℕ) → (i == j) ≡ true → (nat_lt j i ≡ false) × (nat_lt j (suc i) ≡ true)
    passed i j e = (grind (arith, nat_tests), grind (arith, nat_tests))

    kept : (i j : ℕ) → (i == j) ≡ false → nat_lt j i ≡ nat_lt j (suc i)
    kept i j e = grind (arith, nat_tests)

-- One use more counts at most for the input that it uses.
used_below-cons : (one : Use) (uses : List Use) (i : ℕ) → used_below (one ∷ uses) i ≤ used_below uses i + hit one.driver i
used_below-cons one uses zero = omega arith
used_below-cons one uses (suc i) = omega (arith, used_below-cons one uses i, step i one.driver (is_used i uses))

used_below-nil : (i : ℕ) → used_below [] i ≡ 0
used_below-nil zero = refl
used_below-nil (suc i) = omega (arith, used_below-nil i)

-- There are no more used inputs than uses.
pub used_below-le-uses : (uses : List Use) (i : ℕ) → used_below uses i ≤ length uses
used_below-le-uses [] i = omega (arith, used_below-nil i)
used_below-le-uses (one ∷ uses) i = omega (arith, used_below-cons one uses i, hit-le one.driver i, used_below-le-uses uses i)

-- Marks that say which inputs are used count them.
pub marked_below-used : (marks : List Bool) (uses : List Use) (inputs : ℕ) → ((i : ℕ) → i < inputs → get_or marks i false ≡ is_used i uses) → (i : ℕ) → i ≤ inputs → marked_below marks i ≡ used_below uses i
marked_below-used marks uses inputs says zero within = refl
marked_below-used marks uses inputs says (suc i) within =
    let rest : marked_below marks i ≡ used_below uses i = marked_below-used marks uses inputs says i (omega arith) in
    ap (λ b. marked_below marks i + cond b 1 0) (says i (omega arith)) ∙ ap (λ n. n + cond (is_used i uses) 1 0) rest

number_by-is : (net : GateNet) (numbers : List ℕ) (most : ℕ) → ((i : ℕ) → i ≤ net.inputs → get_or numbers i 0 ≡ used_below (uses_of net) i) → (driver : Driver) → IsThere net.inputs most driver → number_by numbers net.inputs driver ≡ driver_number net driver
number_by-is net numbers most says (Input i) there = says i (omega arith)
number_by-is net numbers most says (Gate k) there = ap (λ n. n + k) (says net.inputs (omega arith))

-- Pins by a table of numbers are the pins of the network.
pub pins-by_table : (net : GateNet) (phases numbers : List ℕ) (most : ℕ) → ((i : ℕ) → i ≤ net.inputs → get_or numbers i 0 ≡ used_below (uses_of net) i) → (uses : List Use) → All (λ (one : Use). IsThere net.inputs most one.driver) uses → map (pin_by numbers net.inputs phases) uses ≡ map (pin_of net phases) uses
pins-by_table net phases numbers most says uses there =
    map-same (pin_by numbers net.inputs phases) (pin_of net phases) uses
    (All-weaker (λ (one : Use). IsThere net.inputs most one.driver) (λ (one : Use). pin_by numbers net.inputs phases one ≡ pin_of net phases one)
    (λ one here. ap (λ n. let pin : Pin = record (pin_of net phases one) { driver = n } in pin) (number_by-is net numbers most says one.driver here))
    uses there)

-- The last entry of a table of numbers, as it is read, is how many inputs are used.
pub last_number : (numbers : List ℕ) (uses all : List Use) (i x : ℕ) → length numbers ≡ i + 1 → x ≡ get_or numbers i x → get_or numbers i 0 ≡ used_below uses i → uses ≡ all → x ≡ used_below all i
last_number numbers uses all i x each read says same =
    get_or_read numbers i x (omega arith) read 0 ∙ says ∙ ap (λ us. used_below us i) same
