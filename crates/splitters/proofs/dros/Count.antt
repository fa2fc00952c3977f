-- The count of DROs by drivers' numbers is the count by taps: a chain is as long as the largest need, and used inputs and
-- gates are numbered in order.
use Rattle.std.proofs.Common.{◌≡◌, ◌≤◌, ℕ, zero, suc, ◌+◌, ◌-◌, max, Bool, true, false, cond, nat_eq, List, [], ◌∷◌, ◌++◌, length, get_or, map, All, refl, ap, sym, ◌∙◌, arith, length-append, append_assoc}
use Rattle.std.proofs.lemmas.Bool.{true≢false}
use Rattle.std.proofs.lemmas.List.{get_or_at}
use Rattle.std.proofs.lemmas.List.Elements.{All-head, All-tail}
use Rattle.std.specs.Prelude.{⊤, sum}
use Rattle.gate_net.specs.declared.row.Driver.{Driver}
use Rattle.gate_net.specs.declared.row.Driver.TheVariants.{Input, Gate}
use Rattle.gate_net.specs.declared.net.GateNet.{GateNet}
use Rattle.gate_net.specs.Rows.{same_driver}
use Rattle.gate_net.specs.Net.{IsGateNet, pin_drivers}
use Rattle.flow_net.specs.declared.uses.Use.{Use}
use Rattle.flow_net.specs.declared.net.Epochs.{Epochs}
use Rattle.flow_net.specs.Uses.{uses_of, is_used, used_below, used_inputs, driver_number}
use Rattle.flow_net.specs.Network.{pin_of, network_of}
use Rattle.flow_net.specs.Epochs.{need_of, chain_length, chain_lengths, dro_count}
use Rattle.flow_net.specs.DriverNumbers.{IsNumbered}
use Rattle.flow_net.proofs.CallerLemmas.{use_drivers-are-pin_drivers, is_used-uses_of, uses-numbered, driver_number-same, sum-chain_lengths}
use Rattle.dro_chains.specs.Chains.{chained_of}
use Rattle.splitters.specs.Taps.{tap_count, taps_of, input_dros, gate_dros, chain_dros}
use Rattle.splitters.specs.Laws.{DrosAreTheCount}
use Rattle.splitters.proofs.tapped.Taps.{length-taps_at}
use Rattle.splitters.proofs.dros.Laid.{no-taps, dros_are_the_chains}

-- a driver has its number alone among these uses
abbrev HasItsNumber : GateNet → Driver → List Use → Type 0
HasItsNumber net driver [] = ⊤
HasItsNumber net driver (one ∷ uses) = (nat_eq (driver_number net one.driver) (driver_number net driver) ≡ same_driver driver one.driver) × HasItsNumber net driver uses

-- The largest need of a driver's pins is 1 less than the number of its taps.
chain-taps : (net : GateNet) (phases : List ℕ) (epochs : Epochs) (driver : Driver) (before : List ℕ) (uses : List Use) (pin : ℕ) → pin ≡ length before → HasItsNumber net driver uses →
    chain_length epochs (map (pin_of net phases) uses) (driver_number net driver) ≡ tap_count (before ++ map (need_of epochs) (map (pin_of net phases) uses)) driver pin (map (λ (one : Use). one.driver) uses) - 1
chain-taps net phases epochs driver before [] pin here own = refl
chain-taps net phases epochs driver before (one ∷ uses) pin here own =
    let need = need_of epochs (pin_of net phases one) in
    let later = map (need_of epochs) (map (pin_of net phases) uses) in
    let needs = before ++ need ∷ later in
    let split = append_assoc before (need ∷ []) later in
    let rest = chain-taps net phases epochs driver (before ++ need ∷ []) uses (pin + 1) (omega (arith, here, length-append before (need ∷ []))) own.1 in
    let moved : chain_length epochs (map (pin_of net phases) uses) (driver_number net driver) ≡ tap_count needs driver (pin + 1) (map (λ (one : Use). one.driver) uses) - 1 =
    rest ∙ ap (λ (ns : List ℕ). tap_count ns driver (pin + 1) (map (λ (one : Use). one.driver) uses) - 1) split in
    let mine : get_or needs pin 0 ≡ need = get_or_at before need later 0 pin (sym here) in
    by (nat_eq (driver_number net one.driver) (driver_number net driver)) (same_driver driver one.driver) own.0 need (get_or needs pin 0) mine
    (chain_length epochs (map (pin_of net phases) uses) (driver_number net driver)) (tap_count needs driver (pin + 1) (map (λ (one : Use). one.driver) uses)) moved
  where
    by : (here same : Bool) → here ≡ same → (need got : ℕ) → got ≡ need → (chain taps : ℕ) → chain ≡ taps - 1 → cond here (max need chain) chain ≡ max (cond same (got + 1) 0) taps - 1
    by true true e need got g chain taps m = omega arith
    by true false e need got g chain taps m = absurd (true≢false e)
    by false true e need got g chain taps m = absurd (true≢false (sym e))
    by false false e need got g chain taps m = omega arith

own-number : (net : GateNet) (phases : List ℕ) (driver : Driver) (uses : List Use) → IsGateNet net → IsNumbered net driver → All (λ (one : Use). IsNumbered net one.driver) uses → HasItsNumber net driver uses
own-number net phases driver [] formed here all = tt
own-number net phases driver (one ∷ uses) formed here all = (
  driver_number-same net phases driver one.driver formed here (All-head (λ (one : Use). IsNumbered net one.driver) one uses all),
  own-number net phases driver uses formed here (All-tail (λ (one : Use). IsNumbered net one.driver) one uses all),
)

-- so the chain at a driver's number has one DRO for each tap behind its first
chain-driver : (net : GateNet) (phases : List ℕ) (n : ℕ) (epochs : Epochs) (driver : Driver) → IsGateNet net → IsNumbered net driver →
    chain_length epochs (network_of net phases).pins (driver_number net driver) ≡ length (taps_of (chained_of net phases n epochs) driver) - 1
chain-driver net phases n epochs driver formed here =
    let needs = map (need_of epochs) (map (pin_of net phases) (uses_of net)) in
    let own = own-number net phases driver (uses_of net) formed here (uses-numbered net formed) in
    chain-taps net phases epochs driver [] (uses_of net) 0 refl own
    ∙ ap (λ (ds : List Driver). tap_count needs driver 0 ds - 1) (use_drivers-are-pin_drivers net)
    ∙ ap (λ k. k - 1) (sym (length-taps_at needs (pin_drivers net) driver))

sum-inputs : (net : GateNet) (phases : List ℕ) (n : ℕ) (epochs : Epochs) (input more : ℕ) → IsGateNet net → input + more ≤ net.inputs →
    sum (chain_lengths epochs (network_of net phases).pins (used_below (uses_of net) (input + more))) ≡ sum (chain_lengths epochs (network_of net phases).pins (used_below (uses_of net) input)) + input_dros (chained_of net phases n epochs) input more
sum-inputs net phases n epochs input zero formed few =
    let e : input + 0 ≡ input = omega arith in let f = ap (λ k. sum (chain_lengths epochs (network_of net phases).pins (used_below (uses_of net) k))) e in omega (arith, f)
sum-inputs net phases n epochs input (suc more) formed few =
    let pins = (network_of net phases).pins in
    let uses = uses_of net in
    let total : ℕ → ℕ = λ k. sum (chain_lengths epochs pins k) in
    let e : input + suc more ≡ (input + 1) + more = omega arith in
    let f = ap (λ k. sum (chain_lengths epochs (network_of net phases).pins (used_below (uses_of net) k))) e in
    let rest = sum-inputs net phases n epochs (input + 1) more formed (omega arith) in
    let s : input + 1 ≡ suc input = omega arith in
    let g = ap (λ k. sum (chain_lengths epochs (network_of net phases).pins (used_below (uses_of net) k))) s in
    let one : sum (chain_lengths epochs (network_of net phases).pins (used_below (uses_of net) (suc input))) ≡ sum (chain_lengths epochs (network_of net phases).pins (used_below (uses_of net) input)) + (length (taps_of (chained_of net phases n epochs) (Input input)) - 1) =
    by (is_used input (uses_of net)) refl in
    omega (arith, f, rest, g, one)
  where
    by : (used : Bool) → is_used input (uses_of net) ≡ used →
        sum (chain_lengths epochs (network_of net phases).pins (used_below (uses_of net) input + cond used 1 0)) ≡ sum (chain_lengths epochs (network_of net phases).pins (used_below (uses_of net) input)) + (length (taps_of (chained_of net phases n epochs) (Input input)) - 1)
    by true used = sum-chain_lengths epochs (network_of net phases).pins (used_below (uses_of net) input) ∙ ap (λ k. sum (chain_lengths epochs (network_of net phases).pins (used_below (uses_of net) input)) + k) (chain-driver net phases n epochs (Input input) formed (omega arith, used))
    by false unused =
        let none : length (taps_of (chained_of net phases n epochs) (Input input)) ≡ 0 =
        no-taps (chained_of net phases n epochs) (Input input) (sym (is_used-uses_of net input) ∙ unused) in
        let z : used_below (uses_of net) input + 0 ≡ used_below (uses_of net) input = omega arith in
        let y = ap (λ k. sum (chain_lengths epochs (network_of net phases).pins k)) z in omega (arith, none, y)

sum-gates : (net : GateNet) (phases : List ℕ) (n : ℕ) (epochs : Epochs) (gate more : ℕ) → IsGateNet net → gate + more ≤ length net.gates →
    sum (chain_lengths epochs (network_of net phases).pins (used_inputs net + (gate + more))) ≡ sum (chain_lengths epochs (network_of net phases).pins (used_inputs net + gate)) + gate_dros (chained_of net phases n epochs) gate more
sum-gates net phases n epochs gate zero formed few =
    let e : used_inputs net + (gate + 0) ≡ used_inputs net + gate = omega arith in let f = ap (λ k. sum (chain_lengths epochs (network_of net phases).pins k)) e in omega (arith, f)
sum-gates net phases n epochs gate (suc more) formed few =
    let e : used_inputs net + (gate + suc more) ≡ used_inputs net + ((gate + 1) + more) = omega arith in
    let f = ap (λ k. sum (chain_lengths epochs (network_of net phases).pins k)) e in
    let rest = sum-gates net phases n epochs (gate + 1) more formed (omega arith) in
    let s : used_inputs net + (gate + 1) ≡ (used_inputs net + gate) + 1 = omega arith in
    let g = ap (λ k. sum (chain_lengths epochs (network_of net phases).pins k)) s in
    let one = sum-chain_lengths epochs (network_of net phases).pins (used_inputs net + gate) in
    let chain = chain-driver net phases n epochs (Gate gate) formed (omega arith) in
    omega (arith, f, rest, g, one, chain)

-- The chains of all drivers have as many DROs as the count says.
pub chains_are_the_count : (net : GateNet) (phases : List ℕ) (n : ℕ) (epochs : Epochs) → IsGateNet net → chain_dros (chained_of net phases n epochs) ≡ dro_count (network_of net phases) epochs
chains_are_the_count net phases n epochs formed =
    let b = sum-inputs net phases n epochs 0 net.inputs formed (omega arith) in
    let c = sum-gates net phases n epochs 0 (length net.gates) formed (omega arith) in
    let x : 0 + net.inputs ≡ net.inputs = omega arith in
    let y = ap (λ k. sum (chain_lengths epochs (network_of net phases).pins (used_below (uses_of net) k))) x in
    let z : used_inputs net + 0 ≡ used_inputs net = omega arith in
    let v = ap (λ k. sum (chain_lengths epochs (network_of net phases).pins k)) z in
    let w : used_inputs net + (0 + length net.gates) ≡ used_inputs net + length net.gates = omega arith in
    let u = ap (λ k. sum (chain_lengths epochs (network_of net phases).pins k)) w in
    let none : sum (chain_lengths epochs (network_of net phases).pins (used_below (uses_of net) 0)) ≡ 0 = refl in
    omega (arith, b, c, y, v, u, none)

-- They are laid out with that number of DROs, and the count is the sum of the chain lengths.
pub dros_are_the_count : DrosAreTheCount
dros_are_the_count net phases n epochs names has =
    let formed = has.fits.network.formed in
    let same = dros_are_the_chains (chained_of net phases n epochs) names formed ∙ chains_are_the_count net phases n epochs formed in (same, same)
