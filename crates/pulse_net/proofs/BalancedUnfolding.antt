-- In a valid netlist the unfolded epochs are balanced, and there are no fewer DROs than they cost. The DROs of a driver are at
-- least the need of each of its pins, so at least the length of its chain; and each DRO has one driver, so over all drivers
-- no DRO is counted twice.
use Rattle.std.proofs.Common.{◌≡◌, ◌<◌, ◌≤◌, ◌+◌, ◌==◌, ◌/◌, ◌%◌, ℕ, zero, suc, Bool, true, false, cond, nat_lt, max, List, [], ◌∷◌, length, map, All, refl, sym, ap, subst, ◌∙◌, arith, sum, length-append}
use Rattle.std.specs.Prelude.{flat_map, ◌||◌}
use Rattle.std.specs.List.{count_by, list_any}
use Rattle.std.proofs.lemmas.Nat.{mod_below}
use Rattle.std.proofs.lemmas.Bool.{eqb-true, eq-eqb}
use Rattle.std.proofs.lemmas.Bool.Decides.{nat_tests}
use Rattle.std.proofs.lemmas.List.{length-map}
use Rattle.std.proofs.lemmas.List.Elements.{All-head, All-tail, All-map, All-weaker}
use Rattle.std.proofs.lemmas.List.Sums.{count_by-le-length, sum_by_push, sum_by-cons, sum_by-le-sum_by}
use Rattle.gate_net.specs.declared.row.Driver.{Driver}
use Rattle.gate_net.specs.Net.{end_drivers}
use Rattle.gate_net.specs.Rows.{same_driver}
use Rattle.gate_net.proofs.CallerLemmas.{same_driver-decides}
use Rattle.flow_net.specs.declared.uses.Use.{Use}
use Rattle.flow_net.specs.declared.net.Pin.{Pin}
use Rattle.flow_net.specs.declared.net.Epochs.{Epochs}
use Rattle.flow_net.specs.Uses.{use_by, gate_uses, sink_of, uses_of, driver_number}
use Rattle.flow_net.specs.Network.{pin_of}
use Rattle.flow_net.specs.Epochs.{IsPinBalanced, need_of, chain_length, chain_lengths}
use Rattle.pulse_net.specs.declared.net.Outlet.{Outlet}
use Rattle.pulse_net.specs.declared.net.Outlet.TheVariants.{Zero, One, Wire}
use Rattle.pulse_net.specs.Wires.{Wires}
use Rattle.pulse_net.specs.Validity.{has_wire}
use Rattle.pulse_net.specs.Unfolding.{end_of, unfolding_of, unfolded}
use Rattle.pulse_net.specs.Depths.{dros_behind}
use Rattle.pulse_net.specs.Balance.{unfolded_network, UnfoldedGatesArePhased, UnfoldedEpochsAreBalanced, DrosAreAtLeastTheCount, UnusedNetlistsHaveLatencyOne, NoNetlistHasFewerDros}
use Rattle.pulse_net.proofs.UnbrokenIsWired.{wired}
use Rattle.pulse_net.proofs.UnfoldsItsDros.{unfolds_its_dros}
use Rattle.pulse_net.proofs.StagesAndDrosFollowDepths.{followed}
use Rattle.pulse_net.proofs.UsesAreBalanced.{IsMet, uses-met}

-- In a valid netlist each gate has one phase, which is its stage modulo n.
pub unfolded_gates_are_phased : UnfoldedGatesArePhased
unfolded_gates_are_phased net valid =
    let so = unfolding_of net in
    let n = net.phases in
    record {
      each = length-map so.stages (λ stage. stage % n) ∙ (followed net valid).each_stage;
      below = All-map (λ phase. phase < n) (λ stage. stage % n) so.stages (λ k d within. mod_below _ n valid.formed.some_phases);
    }

-- The epochs are balanced.
pub unfolded_epochs_are_balanced : UnfoldedEpochsAreBalanced
unfolded_epochs_are_balanced net valid =
    let so = unfolding_of net in
    let u = unfolded net in
    record {
      each = length-map so.stages (λ stage. stage / net.phases) ∙ (followed net valid).each_stage;
      pins = All-map (IsPinBalanced u.epochs) (pin_of u.gates u.phases) (uses_of u.gates)
          (All-weaker (λ (one : Use). IsMet u.phases u.epochs so.dros one.user one.driver) (λ (one : Use). IsPinBalanced u.epochs (pin_of u.gates u.phases one)) (λ one h. h.balanced) (uses_of u.gates) (uses-met net valid));
    }

-- ---- the DROs by the numbers of their drivers

module _ (number : Driver → ℕ) where
  -- the DROs whose driver has this number, and those whose driver has a lower one
  abbrev numbered : List Driver → ℕ → ℕ
  numbered dros k = count_by (λ driver. number driver == k) dros

  abbrev numbered_below : List Driver → ℕ → ℕ
  numbered_below dros k = count_by (λ driver. nat_lt (number driver) k) dros

  -- one number more is counted once
  one_more : (x k : ℕ) → cond (nat_lt x k) 1 0 + cond (x == k) 1 0 ≤ cond (nat_lt x (suc k)) 1 0
  one_more x k = grind (arith, nat_tests)

  numbered-next : (dros : List Driver) (k : ℕ) → numbered_below dros k + numbered dros k ≤ numbered_below dros (suc k)
  numbered-next [] k = omega arith
  numbered-next (driver ∷ dros) k =
      omega (
        arith,
        one_more (number driver) k,
        numbered-next dros k,
        sum_by-cons (λ other. cond (nat_lt (number other) k) 1 0) driver dros,
        sum_by-cons (λ other. cond (number other == k) 1 0) driver dros,
        sum_by-cons (λ other. cond (nat_lt (number other) (suc k)) 1 0) driver dros,
      )

  -- the DROs behind a driver have its number
  same-number : (driver other : Driver) → cond (same_driver driver other) 1 0 ≤ cond (number other == number driver) 1 0
  same-number driver other = by (same_driver driver other) refl
    where
      by : (same : Bool) → same_driver driver other ≡ same → cond same 1 0 ≤ cond (number other == number driver) 1 0
      by false e = omega arith
      by true e =
          let same : number other ≡ number driver = ap number (sym ((same_driver-decides driver other).0 e)) in
          let test : (number other == number driver) ≡ true = eq-eqb (number other) (number driver) same in
          subst (λ b. 1 ≤ cond b 1 0) (sym test) (omega arith)

  behind-numbered : (dros : List Driver) (driver : Driver) → dros_behind dros driver ≤ numbered dros (number driver)
  behind-numbered dros driver =
      sum_by-le-sum_by (λ other. cond (same_driver driver other) 1 0) (λ other. cond (number other == number driver) 1 0) dros (same-number driver)

  module _ (epochs : Epochs) (dros : List Driver) (pins : List Pin) (enough : All (λ (pin : Pin). need_of epochs pin ≤ numbered dros pin.driver) pins) where
    -- a chain is no longer than the largest need of its pins
    chain-le : (pins : List Pin) → All (λ (pin : Pin). need_of epochs pin ≤ numbered dros pin.driver) pins → (k : ℕ) → chain_length epochs pins k ≤ numbered dros k
    chain-le [] enough k = omega arith
    chain-le (pin ∷ pins) enough k =
        by (pin.driver == k) refl (chain-le pins (All-tail (λ (pin : Pin). need_of epochs pin ≤ numbered dros pin.driver) pin pins enough) k)
      where
        by : (here : Bool) → (pin.driver == k) ≡ here → chain_length epochs pins k ≤ numbered dros k → cond here (max (need_of epochs pin) (chain_length epochs pins k)) (chain_length epochs pins k) ≤ numbered dros k
        by false e rest = rest
        by true e rest =
            let same : pin.driver ≡ k = eqb-true pin.driver k e in
            let own : need_of epochs pin ≤ numbered dros k = subst (λ j. need_of epochs pin ≤ numbered dros j) same (All-head (λ (pin : Pin). need_of epochs pin ≤ numbered dros pin.driver) pin pins enough) in
            omega (arith, own, rest)

    -- so the chains of the first drivers are no longer than their DROs,
    chains-le : (drivers : ℕ) → sum (chain_lengths epochs pins drivers) ≤ numbered_below dros drivers
    chains-le zero = omega arith
    chains-le (suc k) =
        omega (arith, chains-le k, chain-le pins enough k, numbered-next dros k, sum_by_push (λ (x : ℕ). x) (chain_lengths epochs pins k) (chain_length epochs pins k))

    -- and those of all no longer than all DROs.
    all_chains-le : (drivers : ℕ) → sum (chain_lengths epochs pins drivers) ≤ length dros
    all_chains-le drivers = omega (arith, chains-le drivers, count_by-le-length (λ driver. nat_lt (number driver) drivers) dros)

-- There are at least as many DROs as the epochs cost.
pub dros_are_at_least_the_count : DrosAreAtLeastTheCount
dros_are_at_least_the_count net valid =
    let so = unfolding_of net in
    let u = unfolded net in
    let number = driver_number u.gates in
    let pins = map (pin_of u.gates u.phases) (uses_of u.gates) in
    let enough : All (λ (pin : Pin). need_of u.epochs pin ≤ count_by (λ driver. number driver == pin.driver) so.dros) pins =
    All-map (λ (pin : Pin). need_of u.epochs pin ≤ count_by (λ driver. number driver == pin.driver) so.dros) (pin_of u.gates u.phases) (uses_of u.gates)
    (All-weaker (λ (one : Use). IsMet u.phases u.epochs so.dros one.user one.driver) (λ (one : Use). need_of u.epochs (pin_of u.gates u.phases one) ≤ count_by (λ driver. number driver == number one.driver) so.dros)
    (λ one h. omega (arith, h.enough, behind-numbered number so.dros one.driver))
    (uses_of u.gates) (uses-met net valid)) in
    all_chains-le number u.epochs so.dros pins enough (unfolded_network u).drivers

-- So there are at least as many as the fewest that balanced epochs need.
pub no_netlist_has_fewer_dros : NoNetlistHasFewerDros
no_netlist_has_fewer_dros net epochs valid best =
    omega (arith, best.fewest (unfolded net).epochs (unfolded_epochs_are_balanced net valid), dros_are_at_least_the_count net valid, unfolds_its_dros net)

-- Where no driver is used no output has a wire, and then the latency is 1.
no_wires : (wires : Wires Driver) (outlets : List Outlet) → length (flat_map end_drivers (map (end_of wires) outlets)) ≡ 0 → list_any has_wire outlets ≡ false
no_wires wires [] none = refl
no_wires wires (Zero ∷ outlets) none = no_wires wires outlets none
no_wires wires (One ∷ outlets) none = no_wires wires outlets none
no_wires wires (Wire wire ∷ outlets) none = absurd (omega arith)

pub unused_netlists_have_latency_one : UnusedNetlistsHaveLatencyOne
unused_netlists_have_latency_one net valid none =
    let u = unfolded net in
    let so = unfolding_of net in
    let ends = flat_map end_drivers (map (end_of so.wires) net.outputs) in
    let last = map (use_by (sink_of u.gates)) ends in
    let empty : length ends ≡ 0 = omega (arith, ap length none, length-append (gate_uses 1 so.gates) last, length-map ends (use_by (sink_of u.gates))) in
    let fine : (net.latency == 1 || false) ≡ true = subst (λ b. (net.latency == 1 || b) ≡ true) (no_wires so.wires net.outputs empty) (wired net valid.unbroken).latency in
    eqb-true net.latency 1 (either (net.latency == 1) fine)
  where
    either : (b : Bool) → (b || false) ≡ true → b ≡ true
    either true h = refl
    either false h = h
