-- The inputs: the used ones make the first wires in order, and each is the source of a chain.
use Rattle.std.proofs.Common.{◌≡◌, ◌≤◌, ◌<◌, ℕ, zero, suc, ◌+◌, Bool, true, false, cond, nat_eq, ◌||◌, List, [], ◌∷◌, length, refl, ap, sym, subst, ◌∙◌, arith}
use Rattle.std.proofs.lemmas.Bool.{true≢false, eqb-true, ne_eqb, le-ltb}
use Rattle.std.specs.Prelude.{Option, Some, None, nat_lt, flat_map, option_to_list}
use Rattle.std.specs.List.{list_any}
use Rattle.gate_net.specs.declared.row.Driver.{Driver}
use Rattle.gate_net.specs.declared.row.Driver.TheVariants.{Input, Gate}
use Rattle.gate_net.specs.Rows.{same_driver}
use Rattle.gate_net.specs.Net.{pin_drivers}
use Rattle.gate_net.proofs.CallerLemmas.{same_driver-decides}
use Rattle.flow_net.specs.Uses.{uses_of, is_used}
use Rattle.flow_net.proofs.CallerLemmas.{is_used-uses_of}
use Rattle.pulse_net.specs.Wires.{Wires, found, input_stage, cell_stage, input_entries}
use Rattle.pulse_net.proofs.CallerLemmas.{after_elements-found}
use Rattle.dro_chains.specs.declared.chain.Chained.{Chained}
use Rattle.splitters.specs.Elements.{Layout, with_chain, input_wires, wire_count, with_inputs}
use Rattle.splitters.specs.Taps.{taps_of}
use Rattle.splitters.specs.Laws.{tap_stage}
use Rattle.splitters.proofs.valid.Multiplicity.{once, times, run, AreFound, once-same, once-other, nat_lt-next}
use Rattle.splitters.proofs.valid.Pins.{MarksAgree, MarksAgree-all}
use Rattle.splitters.proofs.valid.Gates.{tap_stage-same}
use Rattle.splitters.proofs.valid.Chains.{Stands, Stands-agree, by_driver, and_driver, Stands-chain}
use Rattle.splitters.proofs.tapped.Taps.{tap_count-some}

-- how often a wire stands in a run
pub times-run_out : (wire from count : ℕ) → from + count ≤ wire → times wire (run from count) ≡ 0
times-run_out wire from zero high = refl
times-run_out wire from (suc count) high =
    let e : once wire from ≡ 0 = once-other wire from (ne_eqb wire from (λ e. omega arith)) in
    let rest = times-run_out wire (suc from) count (omega arith) in omega (arith, e, rest)

times-run_before : (wire from count : ℕ) → wire < from → times wire (run from count) ≡ 0
times-run_before wire from zero low = refl
times-run_before wire from (suc count) low =
    let e : once wire from ≡ 0 = once-other wire from (ne_eqb wire from (λ e. omega arith)) in
    let rest = times-run_before wire (suc from) count (omega arith) in omega (arith, e, rest)

pub times-run_once : (wire from count : ℕ) → times wire (run from count) ≤ 1
times-run_once wire from zero = omega arith
times-run_once wire from (suc count) = by (nat_eq wire from) refl (times-run_once wire (suc from) count)
  where
    by : (here : Bool) → nat_eq wire from ≡ here → times wire (run (suc from) count) ≤ 1 → once wire from + times wire (run (suc from) count) ≤ 1
    by true e rest = let none = times-run_before wire (suc from) count (omega (arith, eqb-true wire from e)) in let o = once-same wire from e in omega (arith, none, o)
    by false e rest = let o = once-other wire from e in omega (arith, o, rest)

-- the used inputs make a run of wires
pub input_wires-run : (chained : Chained) (input next more : ℕ) → flat_map option_to_list (input_wires chained input next more) ≡ run next (wire_count (input_wires chained input next more))
input_wires-run chained input next zero = refl
input_wires-run chained input next (suc more) = by (is_used input (uses_of chained.gates)) (λ from. input_wires-run chained (input + 1) from more)
  where
    by : (used : Bool) → ((from : ℕ) → flat_map option_to_list (input_wires chained (input + 1) from more) ≡ run from (wire_count (input_wires chained (input + 1) from more))) →
        flat_map option_to_list (cond used (Some next) None ∷ input_wires chained (input + 1) (next + cond used 1 0) more)
        ≡ run next (wire_count (cond used (Some next) None ∷ input_wires chained (input + 1) (next + cond used 1 0) more))
    by true rest =
        let e : next + 1 ≡ suc next = omega arith in
        let f : wire_count (input_wires chained (input + 1) (next + 1) more) + 1 ≡ suc (wire_count (input_wires chained (input + 1) (next + 1) more)) = omega arith in
        ap (λ ws. next ∷ ws) (rest (next + 1) ∙ ap (λ k. run k (wire_count (input_wires chained (input + 1) (next + 1) more))) e) ∙ ap (run next) (sym f)
    by false rest = let e : next + 0 ≡ next = omega arith in rest (next + 0) ∙ ap (λ k. run k (wire_count (input_wires chained (input + 1) (next + 0) more))) e

pub length-input_wires : (chained : Chained) (input next more : ℕ) → length (input_wires chained input next more) ≡ more
length-input_wires chained input next zero = refl
length-input_wires chained input next (suc more) = ap suc (length-input_wires chained (input + 1) (next + cond (is_used input (uses_of chained.gates)) 1 0) more)

-- a wire of an input is found at stage 0, and no other
pub found-input : (wires : List (Option ℕ)) (place wire : ℕ) → 1 ≤ times wire (flat_map option_to_list wires) → found (input_entries input_stage place wires) wire ≡ Some 0
found-input [] place wire h = absurd (omega arith)
found-input (None ∷ wires) place wire h = found-input wires (place + 1) wire h
found-input (Some one ∷ wires) place wire h = by (nat_eq wire one) refl (found-input wires (place + 1) wire)
  where
    by : (here : Bool) → nat_eq wire one ≡ here → (1 ≤ times wire (flat_map option_to_list wires) → found (input_entries input_stage (place + 1) wires) wire ≡ Some 0) →
        cond here (Some 0) (found (input_entries input_stage (place + 1) wires) wire) ≡ Some 0
    by true e rest = refl
    by false e rest = let o = once-other wire one e in rest (omega (arith, o, h))

pub found-no_input : (wires : List (Option ℕ)) (place wire : ℕ) → times wire (flat_map option_to_list wires) ≡ 0 → found (input_entries input_stage place wires) wire ≡ None
found-no_input [] place wire h = refl
found-no_input (None ∷ wires) place wire h = found-no_input wires (place + 1) wire h
found-no_input (Some one ∷ wires) place wire h = by (nat_eq wire one) refl (found-no_input wires (place + 1) wire)
  where
    by : (here : Bool) → nat_eq wire one ≡ here → (times wire (flat_map option_to_list wires) ≡ 0 → found (input_entries input_stage (place + 1) wires) wire ≡ None) →
        cond here (Some 0) (found (input_entries input_stage (place + 1) wires) wire) ≡ None
    by true e rest = let o = once-same wire one e in absurd (omega (arith, o, h))
    by false e rest = let o = once-other wire one e in rest (omega (arith, o, h))

-- the inputs below one are reached
abbrev pub before_input : ℕ → Driver → Bool
before_input input (Input i) = nat_lt i input
before_input input (Gate k) = false

pub before_input-next : (input : ℕ) (driver : Driver) → before_input (input + 1) driver ≡ and_driver (before_input input) (Input input) driver
before_input-next input (Gate k) = refl
before_input-next input (Input i) = nat_lt-next i input

pub before_input-late : (input : ℕ) (other : Driver) → same_driver (Input input) other ≡ true → before_input input other ≡ false
before_input-late input other same = ap (before_input input) (sym ((same_driver-decides (Input input) other).0 same)) ∙ le-ltb input input (omega arith)

-- an unused input changes nothing
pub MarksAgree-unused : (needs : List ℕ) (reached : Driver → Bool) (driver : Driver) (pin : ℕ) (drivers : List Driver) → list_any (same_driver driver) drivers ≡ false → MarksAgree (by_driver reached) (by_driver (and_driver reached driver)) needs pin drivers
MarksAgree-unused needs reached driver pin [] none = tt
MarksAgree-unused needs reached driver pin (other ∷ drivers) none =
    let split = by (same_driver driver other) (list_any (same_driver driver) drivers) none in
    (ap (λ b. reached other || b) split.0 ∙ or_none (reached other), MarksAgree-unused needs reached driver (pin + 1) drivers split.1)
  where
    by : (same any : Bool) → (same || any) ≡ false → (same ≡ false) × (any ≡ false)
    by true any e = absurd (true≢false e)
    by false any e = (refl, e)

    or_none : (b : Bool) → (b || false) ≡ b
    or_none true = refl
    or_none false = refl

-- The chains of the inputs from one on: behind them the pins of these inputs wait.
pub Stands-inputs : (chained : Chained) (first : ℕ) (start : Wires ℕ) (input next more : ℕ) (layout : Layout) →
    1 ≤ chained.n →
    AreFound start 0 (flat_map option_to_list (input_wires chained input next more)) →
    Stands chained.n first start (tap_stage chained) chained.needs 0 (pin_drivers chained.gates) (by_driver (before_input input)) (λ w. times w (flat_map option_to_list (input_wires chained input next more))) layout →
    Stands chained.n first start (tap_stage chained) chained.needs 0 (pin_drivers chained.gates) (by_driver (before_input (input + more))) (λ w. 0) (with_inputs chained input (input_wires chained input next more) layout)
Stands-inputs chained first start input next zero layout some are h =
    let e : input ≡ input + 0 = omega arith in
    subst (λ k. Stands chained.n first start (tap_stage chained) chained.needs 0 (pin_drivers chained.gates) (by_driver (before_input k)) (λ w. 0) layout) e h
Stands-inputs chained first start input next (suc more) layout some are h =
    let e : (input + 1) + more ≡ input + suc more = omega arith in
    subst (λ k. Stands chained.n first start (tap_stage chained) chained.needs 0 (pin_drivers chained.gates) (by_driver (before_input k)) (λ w. 0) (with_inputs chained input (input_wires chained input next (suc more)) layout)) e
    (by (is_used input (uses_of chained.gates)) (sym (is_used-uses_of chained.gates input)) are h (λ from lay all stands. Stands-inputs chained first start (input + 1) from more lay some all stands))
  where
    drivers : List Driver
    drivers = pin_drivers chained.gates

    by : (used : Bool) → list_any (same_driver (Input input)) (pin_drivers chained.gates) ≡ used →
        AreFound start 0 (flat_map option_to_list (cond used (Some next) None ∷ input_wires chained (input + 1) (next + cond used 1 0) more)) →
        Stands chained.n first start (tap_stage chained) chained.needs 0 (pin_drivers chained.gates) (by_driver (before_input input)) (λ w. times w (flat_map option_to_list (cond used (Some next) None ∷ input_wires chained (input + 1) (next + cond used 1 0) more))) layout →
        ((from : ℕ) (lay : Layout) → AreFound start 0 (flat_map option_to_list (input_wires chained (input + 1) from more)) →
        Stands chained.n first start (tap_stage chained) chained.needs 0 (pin_drivers chained.gates) (by_driver (before_input (input + 1))) (λ w. times w (flat_map option_to_list (input_wires chained (input + 1) from more))) lay →
        Stands chained.n first start (tap_stage chained) chained.needs 0 (pin_drivers chained.gates) (by_driver (before_input ((input + 1) + more))) (λ w. 0) (with_inputs chained (input + 1) (input_wires chained (input + 1) from more) lay)) →
        Stands chained.n first start (tap_stage chained) chained.needs 0 (pin_drivers chained.gates) (by_driver (before_input ((input + 1) + more))) (λ w. 0) (with_inputs chained input (cond used (Some next) None ∷ input_wires chained (input + 1) (next + cond used 1 0) more) layout)
    by true used are h rest =
        let waits : ℕ → ℕ = λ w. times w (flat_map option_to_list (input_wires chained (input + 1) (next + 1) more)) in
        let done = Stands-chain chained.n first start (tap_stage chained) chained.needs [] (pin_drivers chained.gates) (before_input input) waits (Input input) 0 next layout some tt
        (before_input-late input) (tap_stage-same chained (Input input)) ((tap_count-some chained.needs (Input input) 0 (pin_drivers chained.gates)).0 used)
        (record { stands = h; source = after_elements-found 0 cell_stage start layout.elements next 0 are.0 }) in
        rest (next + 1) (with_chain chained.n 0 next (taps_of chained (Input input)) layout) are.1
        (Stands-agree chained.n first start (tap_stage chained) chained.needs 0 (pin_drivers chained.gates) (by_driver (and_driver (before_input input) (Input input))) (by_driver (before_input (input + 1))) waits
        (with_chain chained.n 0 next (taps_of chained (Input input)) layout)
        (MarksAgree-all (by_driver (and_driver (before_input input) (Input input))) (by_driver (before_input (input + 1))) chained.needs 0 (pin_drivers chained.gates) (λ driver need. before_input-next input driver)) done)
    by false unused are h rest =
        let waits : ℕ → ℕ = λ w. times w (flat_map option_to_list (input_wires chained (input + 1) (next + 0) more)) in
        rest (next + 0) layout are
        (Stands-agree chained.n first start (tap_stage chained) chained.needs 0 (pin_drivers chained.gates) (by_driver (and_driver (before_input input) (Input input))) (by_driver (before_input (input + 1))) waits layout
        (MarksAgree-all (by_driver (and_driver (before_input input) (Input input))) (by_driver (before_input (input + 1))) chained.needs 0 (pin_drivers chained.gates) (λ driver need. before_input-next input driver))
        (Stands-agree chained.n first start (tap_stage chained) chained.needs 0 (pin_drivers chained.gates) (by_driver (before_input input)) (by_driver (and_driver (before_input input) (Input input))) waits layout
        (MarksAgree-unused chained.needs (before_input input) (Input input) 0 (pin_drivers chained.gates) unused) h))
