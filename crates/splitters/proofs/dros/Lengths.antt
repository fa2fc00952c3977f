-- The table of the chains' lengths: what a pin adds to it, and its sum.
use Rattle.std.proofs.Common.{◌≡◌, ◌<◌, ℕ, zero, suc, ◌+◌, ◌-◌, max, cond, Bool, true, false, List, [], ◌∷◌, length, get_or, set, drop, refl, ap, sym, subst, ◌∙◌, arith, add-one, drop-cons, get_or-set_same, get_or-set_other}
use Rattle.std.specs.Prelude.{sum}
use Rattle.std.proofs.lemmas.List.{get_or_default}
use Rattle.std.proofs.lemmas.List.Sums.{sum_by-take-drop}
use Rattle.gate_net.specs.declared.row.Driver.{Driver}
use Rattle.gate_net.specs.declared.row.Driver.TheVariants.{Input, Gate}
use Rattle.gate_net.specs.Rows.{same_driver}
use Rattle.gate_net.specs.Net.{IsThere, pin_drivers}
use Rattle.dro_chains.specs.declared.chain.Chained.{Chained}
use Rattle.splitters.specs.Taps.{tap_count, taps_of, input_dros, gate_dros, chain_dros}
use Rattle.splitters.specs.Table.{slot, HasLengths}
use Rattle.splitters.proofs.tapped.Taps.{length-taps_at}
use Rattle.splitters.proofs.tapped.Table.{slot-same, slot-other, slot-below}

-- what the table has, with the needs of the pins from a number on, is what all pins make
abbrev pub Lengthens : ℕ → ℕ → List ℕ → List Driver → List ℕ → ℕ → List Driver → Type 0
Lengthens inputs gates needs drivers lengths pin rest =
    (driver : Driver) → IsThere inputs gates driver → max (get_or lengths (slot inputs driver) 0) (tap_count needs driver pin rest - 1) ≡ tap_count needs driver 0 drivers - 1

-- What one pin adds to a chain: nothing, unless it has the driver.
length-next : (same : Bool) (old new need more all : ℕ) → (same ≡ true → new ≡ max old need) → (same ≡ false → new ≡ old) →
    max old (max (cond same (need + 1) 0) more - 1) ≡ all → max new (more - 1) ≡ all
length-next true old new need more all mine other done = let e : new ≡ max old need = mine refl in omega arith
length-next false old new need more all mine other done = let e : new ≡ old = other refl in omega arith

-- One pin makes the chain of its driver as long as its need, and all other chains stay.
Lengthens-next : (inputs gates : ℕ) (needs : List ℕ) (drivers : List Driver) (lengths : List ℕ) (pin : ℕ) (other : Driver) (rest : List Driver) (new : ℕ) →
    IsThere inputs gates other → length lengths ≡ inputs + gates → new ≡ max (get_or lengths (slot inputs other) 0) (get_or needs pin 0) →
    Lengthens inputs gates needs drivers lengths pin (other ∷ rest) → Lengthens inputs gates needs drivers (set lengths (slot inputs other) new) (pin + 1) rest
Lengthens-next inputs gates needs drivers lengths pin other rest new here each is done = λ driver there.
    let within : slot inputs other < length lengths = omega (arith, slot-below inputs gates other here) in
    length-next (same_driver driver other) (get_or lengths (slot inputs driver) 0) (get_or (set lengths (slot inputs other) new) (slot inputs driver) 0) (get_or needs pin 0)
    (tap_count needs driver (pin + 1) rest) (tap_count needs driver 0 drivers - 1)
    (λ same.
    let place = slot-same inputs driver other same in
    ap (λ (n : ℕ). get_or (set lengths (slot inputs other) new) n 0) place
    ∙ get_or-set_same lengths (slot inputs other) new 0 within
    ∙ is ∙ ap (λ (n : ℕ). max (get_or lengths n 0) (get_or needs pin 0)) (sym place))
    (λ differs. get_or-set_other lengths (slot inputs other) (slot inputs driver) new 0 (slot-other inputs gates driver other there here differs))
    (done driver there)

-- The same, as the code does it: at a place of the table, with what was there before.
pub Lengthens-pin : (inputs gates : ℕ) (needs : List ℕ) (drivers : List Driver) (lengths : List ℕ) (pin place need old new : ℕ) →
    pin < length drivers → IsThere inputs gates (get_or drivers pin (Input 0)) → place ≡ slot inputs (get_or drivers pin (Input 0)) → length lengths ≡ inputs + gates →
    need ≡ get_or needs pin 0 → old ≡ get_or lengths place old → new ≡ max old need →
    Lengthens inputs gates needs drivers lengths pin (drop pin drivers) → Lengthens inputs gates needs drivers (set lengths place new) (pin + 1) (drop (pin + 1) drivers)
Lengthens-pin inputs gates needs drivers lengths pin place need old new within there here each need_is read new_is done =
    let inside : slot inputs (get_or drivers pin (Input 0)) < length lengths = omega (arith, each, slot-below inputs gates (get_or drivers pin (Input 0)) there) in
    let old_is : old ≡ get_or lengths (slot inputs (get_or drivers pin (Input 0))) 0 =
    read ∙ ap (λ (n : ℕ). get_or lengths n old) here ∙ get_or_default lengths (slot inputs (get_or drivers pin (Input 0))) old 0 inside in
    let split_off : drop pin drivers ≡ get_or drivers pin (Input 0) ∷ drop (pin + 1) drivers = rw (add-one, drop-cons drivers pin (Input 0)) refl in
    subst (λ (n : ℕ). Lengthens inputs gates needs drivers (set lengths n new) (pin + 1) (drop (pin + 1) drivers)) (sym here)
    (Lengthens-next inputs gates needs drivers lengths pin (get_or drivers pin (Input 0)) (drop (pin + 1) drivers) new there each
    (new_is ∙ (λ i. max (old_is i) (need_is i)))
    (subst (Lengthens inputs gates needs drivers lengths pin) split_off done))

-- The lengths of gates' chains, and of all chains, sum up to the DROs.
gate-sums : (chained : Chained) (gate : ℕ) (lengths : List ℕ) → ((k : ℕ) → k < length lengths → get_or lengths k 0 ≡ length (taps_of chained (Gate (gate + k))) - 1) →
    sum lengths ≡ gate_dros chained gate (length lengths)
gate-sums chained gate [] reads = refl
gate-sums chained gate (one ∷ lengths) reads =
    let same : gate + 0 ≡ gate = omega arith in
    let first = reads 0 (omega arith) ∙ ap (λ (k : ℕ). length (taps_of chained (Gate k)) - 1) same in
    let rest = gate-sums chained (gate + 1) lengths
    (λ k low. let next : gate + suc k ≡ (gate + 1) + k = omega arith in reads (suc k) (omega arith) ∙ ap (λ (m : ℕ). length (taps_of chained (Gate m)) - 1) next) in
    omega (arith, first, rest, sum_by-take-drop (λ (n : ℕ). n) (one ∷ lengths) 1)

input-sums : (chained : Chained) (input more : ℕ) (lengths : List ℕ) → more < length lengths + 1 →
    ((k : ℕ) → k < more → get_or lengths k 0 ≡ length (taps_of chained (Input (input + k))) - 1) →
    ((k : ℕ) → more + k < length lengths → get_or lengths (more + k) 0 ≡ length (taps_of chained (Gate k)) - 1) →
    sum lengths ≡ input_dros chained input more + gate_dros chained 0 (length lengths - more)
input-sums chained input zero lengths few inputs gates =
    let all : length lengths - 0 ≡ length lengths = omega arith in
    let same = ap (gate_dros chained 0) all in
    let sums = gate-sums chained 0 lengths
    (λ k low. let here : k ≡ 0 + k = omega arith in ap (λ (m : ℕ). get_or lengths m 0) here ∙ gates k (omega arith) ∙ ap (λ (m : ℕ). length (taps_of chained (Gate m)) - 1) here) in
    omega (arith, same, sums)
input-sums chained input (suc more) [] few inputs gates = absurd (omega arith)
input-sums chained input (suc more) (one ∷ lengths) few inputs gates =
    let same : input + 0 ≡ input = omega arith in
    let first = inputs 0 (omega arith) ∙ ap (λ (k : ℕ). length (taps_of chained (Input k)) - 1) same in
    let rest = input-sums chained (input + 1) more lengths (omega arith)
    (λ k low. let next : input + suc k ≡ (input + 1) + k = omega arith in inputs (suc k) (omega arith) ∙ ap (λ (m : ℕ). length (taps_of chained (Input m)) - 1) next)
    (λ k low. let next : suc (more + k) ≡ suc more + k = omega arith in ap (λ (m : ℕ). get_or (one ∷ lengths) m 0) next ∙ gates k (omega arith)) in
    let less : suc (length lengths) - suc more ≡ length lengths - more = omega arith in
    let behind = ap (gate_dros chained 0) less in
    omega (arith, first, rest, behind, sum_by-take-drop (λ (n : ℕ). n) (one ∷ lengths) 1)

-- The table of lengths sums up to the DROs.
pub lengths-sum : (chained : Chained) (lengths : List ℕ) → length lengths ≡ chained.gates.inputs + length chained.gates.gates →
    HasLengths chained.gates.inputs (length chained.gates.gates) chained.needs (pin_drivers chained.gates) lengths → sum lengths ≡ chain_dros chained
lengths-sum chained lengths each has =
    let inputs = chained.gates.inputs in
    let drivers = pin_drivers chained.gates in
    let many : (driver : Driver) → tap_count chained.needs driver 0 drivers - 1 ≡ length (taps_of chained driver) - 1 =
    λ driver. ap (λ (n : ℕ). n - 1) (sym (length-taps_at chained.needs drivers driver)) in
    let sums = input-sums chained 0 inputs lengths (omega arith)
    (λ k low. let here : k ≡ 0 + k = omega arith in has (Input k) low ∙ many (Input k) ∙ ap (λ (m : ℕ). length (taps_of chained (Input m)) - 1) here)
    (λ k low. has (Gate k) (omega arith) ∙ many (Gate k)) in
    let gates : length lengths - inputs ≡ length chained.gates.gates = omega arith in
    let same = ap (gate_dros chained 0) gates in
    omega (arith, sums, same)
