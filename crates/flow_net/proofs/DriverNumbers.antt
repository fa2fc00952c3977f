-- The numbers of drivers. The number of a used input is how many used inputs there are below it, so each one moves the
-- count on; the gates come behind all of them, in order.
use Rattle.std.proofs.Common.{◌≡◌, ◌≤◌, ◌<◌, ◌∙◌, ◌||◌, ℕ, zero, suc, ◌+◌, ◌-◌, Bool, true, false, cond, nat_eq, List, [], ◌∷◌, length, get_or, map, All, Any, Contains, refl, ap, sym, subst, arith, ⊎_elim}
use Rattle.std.specs.Bool.{one_answer}
use Rattle.std.specs.Cmp.{nat_eq_equiv}
use Rattle.std.proofs.lemmas.Bool.{or_right, cases_lt}
use Rattle.std.proofs.lemmas.Bool.Decides.{Decides-eqb, Decides-like}
use Rattle.std.proofs.lemmas.List.{get_or-map, length-map}
use Rattle.std.proofs.lemmas.List.Elements.{All-map}
use Rattle.std.proofs.lemmas.Map.Views.{Contains-from_any}
use Rattle.gate_net.specs.declared.row.Driver.{Driver}
use Rattle.gate_net.specs.declared.row.Driver.TheVariants.{Input, Gate}
use Rattle.gate_net.specs.declared.net.GateNet.{GateNet}
use Rattle.gate_net.specs.Rows.{same_driver}
use Rattle.gate_net.specs.Net.{IsThere, IsGateNet, EachGateIsUsed, pin_drivers}
use Rattle.gate_net.proofs.CallerLemmas.{same_driver-decides}
use Rattle.flow_net.specs.declared.uses.Use.{Use}
use Rattle.flow_net.specs.declared.net.Pin.{Pin}
use Rattle.flow_net.specs.Uses.{use_by, uses_of, used_below, used_inputs, is_used, driver_number}
use Rattle.flow_net.specs.Network.{vertex_of, pin_of, network_of}
use Rattle.flow_net.specs.DriverNumbers.{IsNumbered, DriversAreNumbered}
use Rattle.flow_net.proofs.UseLemmas.{uses-there}
use Rattle.flow_net.proofs.NetworkLemmas.{use_drivers-are-pin_drivers, is_used-uses_of}

-- Past a used input the count has moved on.
used_below-more : (uses : List Use) (i more : ℕ) → used_below uses i ≤ used_below uses (i + more)
used_below-more uses i zero = let e : i + 0 ≡ i = omega arith in let f = ap (used_below uses) e in omega (arith, f)
used_below-more uses i (suc more) =
    let e : i + suc more ≡ suc (i + more) = omega arith in
    let f = ap (used_below uses) e in
    omega (arith, f, used_below-more uses i more)

used_below-lt : (uses : List Use) (i j : ℕ) → is_used i uses ≡ true → i < j → used_below uses i < used_below uses j
used_below-lt uses i j used later =
    let e : suc i + (j - suc i) ≡ j = omega arith in
    let f = ap (used_below uses) e in
    let one : used_below uses (suc i) ≡ used_below uses i + 1 = ap (λ b. used_below uses i + cond b 1 0) used in
    omega (arith, f, one, used_below-more uses (suc i) (j - suc i))

-- Each count below the last is the number of a used input.
used_below-reached : (uses : List Use) (inputs number : ℕ) → number < used_below uses inputs → (i : ℕ) × (i < inputs) × (is_used i uses ≡ true) × (used_below uses i ≡ number)
used_below-reached uses zero number low = absurd (omega arith)
used_below-reached uses (suc last) number low = by (is_used last uses) refl (used_below-reached uses last number) low
  where
    by : (used : Bool) → is_used last uses ≡ used → (number < used_below uses last → (i : ℕ) × (i < last) × (is_used i uses ≡ true) × (used_below uses i ≡ number)) →
        number < used_below uses last + cond used 1 0 → (i : ℕ) × (i < suc last) × (is_used i uses ≡ true) × (used_below uses i ≡ number)
    by true e rest low =
        ⊎_elim {C = (i : ℕ) × (i < suc last) × (is_used i uses ≡ true) × (used_below uses i ≡ number)}
        (λ less. let found = rest less in (found.0, omega arith, found.2, found.3))
        (λ least. (last, omega arith, e, omega arith)) (cases_lt number (used_below uses last))
    by false e rest low = let found = rest (omega arith) in (found.0, omega arith, found.2, found.3)

driver_number-below : (net : GateNet) (driver : Driver) → IsNumbered net driver → driver_number net driver < used_inputs net + length net.gates
driver_number-below net (Input i) (within, used) = omega (arith, used_below-lt (uses_of net) i net.inputs used within)
driver_number-below net (Gate k) within = omega arith

driver_number-distinct : (net : GateNet) (a b : Driver) → IsNumbered net a → IsNumbered net b → driver_number net a ≡ driver_number net b → a ≡ b
driver_number-distinct net (Input i) (Input j) (low, used) (low', used') same =
    let uses = uses_of net in
    ap Input
    (⊎_elim {C = i ≡ j} (λ l. absurd (omega (arith, used_below-lt uses i j used l, same)))
    (λ h. ⊎_elim {C = i ≡ j} (λ l. absurd (omega (arith, used_below-lt uses j i used' l, same))) (λ k. omega arith) (cases_lt j i)) (cases_lt i j))
driver_number-distinct net (Input i) (Gate k) (low, used) within same = absurd (omega (arith, used_below-lt (uses_of net) i net.inputs used low, same))
driver_number-distinct net (Gate k) (Input i) within (low, used) same = absurd (omega (arith, used_below-lt (uses_of net) i net.inputs used low, same))
driver_number-distinct net (Gate j) (Gate k) within within' same = let e : j ≡ k = omega (arith, same) in ap Gate e

driver_number-reached : (net : GateNet) (number : ℕ) → number < used_inputs net + length net.gates → (driver : Driver) × IsNumbered net driver × (driver_number net driver ≡ number)
driver_number-reached net number low =
    ⊎_elim {C = (driver : Driver) × IsNumbered net driver × (driver_number net driver ≡ number)}
    (λ less. let found = used_below-reached (uses_of net) net.inputs number less in (Input found.0, (found.1, found.2), found.3))
    (λ least. (Gate (number - used_inputs net), omega arith, omega arith))
    (cases_lt number (used_inputs net))

-- An input is used by the uses where it is the driver of one.
is_used-here : (i : ℕ) (uses : List Use) (k : ℕ) (d : Use) → k < length uses → (get_or uses k d).driver ≡ Input i → is_used i uses ≡ true
is_used-here i [] k d within is = absurd (omega arith)
is_used-here i (one ∷ uses) zero d within is = ap (λ driver. same_driver (Input i) driver || is_used i uses) is ∙ ap (λ b. b || is_used i uses) (nat_eq_equiv.refl i)
is_used-here i (one ∷ uses) (suc k) d within is = or_right (same_driver (Input i) one.driver) (is_used i uses) (is_used-here i uses k d (omega arith) is)

-- The driver of each use has a number.
pub uses-numbered : (net : GateNet) → IsGateNet net → All (λ (one : Use). IsNumbered net one.driver) (uses_of net)
uses-numbered net formed = λ k d within.
    by k d within (get_or (uses_of net) k d).driver refl (uses-there net (length net.gates) (omega arith) formed k d within)
  where
    by : (k : ℕ) (d : Use) → k < length (uses_of net) → (driver : Driver) → (get_or (uses_of net) k d).driver ≡ driver → IsThere net.inputs (length net.gates) driver → IsNumbered net driver
    by k d within (Input i) is there = (there, is_used-here i (uses_of net) k d within is)
    by k d within (Gate j) is there = there

-- A driver that drives a pin has its number there.
pin-here : (net : GateNet) (phases : List ℕ) (driver : Driver) → Contains (map (λ (one : Use). one.driver) (uses_of net)) driver → Any (λ pin. pin.driver ≡ driver_number net driver) (map (pin_of net phases) (uses_of net))
pin-here net phases driver (k, within, is) =
    let uses = uses_of net in
    let d = use_by 0 driver in
    let one = get_or uses k d in
    let place : k < length uses = omega (arith, length-map uses (λ (one : Use). one.driver)) in
    let drives : one.driver ≡ driver = sym (get_or-map (λ (one : Use). one.driver) uses k d driver place) ∙ is in (
      k,
      pin_of net phases one,
      omega (arith, length-map uses (pin_of net phases)),
      get_or-map (pin_of net phases) uses k d (pin_of net phases one) place,
      ap (driver_number net) drives,
    )

-- A driver that has a number drives a pin, where each gate does.
drives : (net : GateNet) (driver : Driver) → EachGateIsUsed net → IsNumbered net driver → Contains (pin_drivers net) driver
drives net (Input i) used (within, some) =
    Contains-from_any {eq = same_driver} (λ a b. (same_driver-decides a b).0) (Input i) (pin_drivers net) (sym (is_used-uses_of net i) ∙ some)
drives net (Gate k) used within = used k within

pub drivers_are_numbered : DriversAreNumbered
drivers_are_numbered net phases formed = record {
  below = driver_number-below net;
  distinct = driver_number-distinct net;
  all = driver_number-reached net;
  pins =
      All-map (λ (pin : Pin). pin.driver < (network_of net phases).drivers) (pin_of net phases) (uses_of net)
      (λ k d within. driver_number-below net (get_or (uses_of net) k d).driver (uses-numbered net formed k d within));
  starts = λ driver numbered.
      All-map (λ (pin : Pin). pin.driver ≡ driver_number net driver → pin.from ≡ vertex_of driver) (pin_of net phases) (uses_of net)
      (λ k d within same. ap vertex_of (driver_number-distinct net (get_or (uses_of net) k d).driver driver (uses-numbered net formed k d within) numbered same));
  used = λ each number low.
      let found = driver_number-reached net number low in
      subst (λ n. Any (λ (pin : Pin). pin.driver ≡ n) (network_of net phases).pins) found.2 (pin-here net phases found.0 (subst (λ (drivers : List Driver). Contains drivers found.0) (sym (use_drivers-are-pin_drivers net)) (drives net found.0 each found.1)));
}

-- Numbers are equal exactly where the drivers are one.
pub driver_number-same : (net : GateNet) (phases : List ℕ) (a b : Driver) → IsGateNet net → IsNumbered net a → IsNumbered net b → nat_eq (driver_number net b) (driver_number net a) ≡ same_driver a b
driver_number-same net phases a b formed first second =
    one_answer (nat_eq (driver_number net b) (driver_number net a)) (same_driver a b)
    (Decides-like (nat_eq (driver_number net b) (driver_number net a)) (λ e. (drivers_are_numbered net phases formed).distinct a b first second (sym e)) (λ e. ap (driver_number net) (sym e))
    (Decides-eqb (driver_number net b) (driver_number net a)))
    (same_driver-decides a b)
