-- The inputs: each used one drives its wire, and its chain hands it to its pins.
use Rattle.std.proofs.Common.{◌≡◌, ℕ, zero, suc, ◌+◌, Bool, true, false, cond, List, [], ◌∷◌, refl, sym, subst, arith}
use Rattle.std.specs.Prelude.{Option, Some, None, ⊤}
use Rattle.std.specs.List.{list_any}
use Rattle.gate_net.specs.declared.row.Driver.{Driver}
use Rattle.gate_net.specs.declared.row.Driver.TheVariants.{Input}
use Rattle.gate_net.specs.Rows.{same_driver}
use Rattle.gate_net.specs.Net.{pin_drivers}
use Rattle.flow_net.specs.Uses.{uses_of, is_used}
use Rattle.flow_net.proofs.CallerLemmas.{is_used-uses_of}
use Rattle.pulse_net.specs.Wires.{Wires, found}
use Rattle.pulse_net.specs.Unfolding.{Unfolding, make_driven, unfold_inputs}
use Rattle.pulse_net.proofs.CallerLemmas.{with_wire-keeps, with_wire-found}
use Rattle.dro_chains.specs.declared.chain.Chained.{Chained}
use Rattle.splitters.specs.Elements.{Layout, with_chain, input_wires, wire_count, with_inputs}
use Rattle.splitters.specs.Taps.{taps_of}
use Rattle.splitters.proofs.valid.Pins.{MarksAgree-all}
use Rattle.splitters.proofs.valid.Chains.{by_driver, and_driver}
use Rattle.splitters.proofs.tapped.Taps.{tap_count-some}
use Rattle.splitters.proofs.valid.Inputs.{before_input, before_input-next, before_input-late, MarksAgree-unused}
use Rattle.splitters.proofs.unfolds.Wires.{IsFresh, with_wire-fresh, AreKept, AreKept-same, AreKept-then}
use Rattle.splitters.proofs.unfolds.Chains.{so_far, Drives, Drives-agree, Step, Step-then, Drives-chain}

-- the wires of inputs from a place on have these inputs as drivers
abbrev AreInputs : Wires Driver → ℕ → List (Option ℕ) → Type 0
AreInputs made place [] = ⊤
AreInputs made place (None ∷ wires) = AreInputs made (place + 1) wires
AreInputs made place (Some wire ∷ wires) = (found made wire ≡ Some (Input place)) × AreInputs made (place + 1) wires

-- what inputs make: their wires with their drivers, and no wire from the next one on
pub record AreMade (so later : Unfolding) (next place : ℕ) (wires : List (Option ℕ)) : Type 0 where
  pub fresh : IsFresh next later.wires
  pub made : AreInputs later.wires place wires
  pub kept : AreKept so later

pub AreMade-inputs : (chained : Chained) (input next more : ℕ) (so : Unfolding) → IsFresh next so.wires →
    AreMade so (unfold_inputs input (input_wires chained input next more) so) (next + wire_count (input_wires chained input next more)) input (input_wires chained input next more)
AreMade-inputs chained input next zero so fresh =
    let e : next ≡ next + 0 = omega arith in
    subst (λ n. AreMade so so n input []) e (record { fresh = fresh; made = tt; kept = AreKept-same so })
AreMade-inputs chained input next (suc more) so fresh = by (is_used input (uses_of chained.gates)) (λ from start new. AreMade-inputs chained (input + 1) from more start new)
  where
    by : (used : Bool) →
        ((from : ℕ) (start : Unfolding) → IsFresh from start.wires →
        AreMade start (unfold_inputs (input + 1) (input_wires chained (input + 1) from more) start) (from + wire_count (input_wires chained (input + 1) from more)) (input + 1) (input_wires chained (input + 1) from more)) →
        AreMade so (unfold_inputs input (cond used (Some next) None ∷ input_wires chained (input + 1) (next + cond used 1 0) more) so)
        (next + wire_count (cond used (Some next) None ∷ input_wires chained (input + 1) (next + cond used 1 0) more)) input (cond used (Some next) None ∷ input_wires chained (input + 1) (next + cond used 1 0) more)
    by true rest =
        let wires = input_wires chained (input + 1) (next + 1) more in
        let one = make_driven next (Input input) so in
        let later = unfold_inputs (input + 1) wires one in
        let done = rest (next + 1) one (with_wire-fresh so.wires next (Input input) fresh) in
        let e : (next + 1) + wire_count wires ≡ next + (wire_count wires + 1) = omega arith in
        let first : AreKept so one = record { wires = with_wire-keeps so.wires next (Input input); gates = refl; stages = refl } in
        record {
          fresh = subst (λ n. IsFresh n later.wires) e done.fresh;
          made = (done.kept.wires next (Input input) (with_wire-found so.wires next (Input input) (fresh next (omega arith))), done.made);
          kept = AreKept-then so one later first done.kept;
        }
    by false rest =
        let wires = input_wires chained (input + 1) (next + 0) more in
        let later = unfold_inputs (input + 1) wires so in
        let z : next ≡ next + 0 = omega arith in
        let done = rest (next + 0) so (subst (λ n. IsFresh n so.wires) z fresh) in
        let e : (next + 0) + wire_count wires ≡ next + wire_count wires = omega arith in
        record { fresh = subst (λ n. IsFresh n later.wires) e done.fresh; made = done.made; kept = done.kept }

-- The chains of the inputs from one on: behind them the pins of these inputs take wires of theirs.
pub Drives-inputs : (chained : Chained) (start : Unfolding) (input next more : ℕ) (layout : Layout) →
    AreInputs start.wires input (input_wires chained input next more) →
    AreKept start (so_far start layout) →
    Drives start chained.needs 0 (pin_drivers chained.gates) (by_driver (before_input input)) layout →
    Step start chained.needs 0 (pin_drivers chained.gates) (by_driver (before_input (input + more))) layout (with_inputs chained input (input_wires chained input next more) layout)
Drives-inputs chained start input next zero layout made kept h =
    let e : input ≡ input + 0 = omega arith in
    subst (λ k. Step start chained.needs 0 (pin_drivers chained.gates) (by_driver (before_input k)) layout layout) e (record { drives = h; kept = AreKept-same (so_far start layout) })
Drives-inputs chained start input next (suc more) layout made kept h =
    let e : (input + 1) + more ≡ input + suc more = omega arith in
    subst (λ k. Step start chained.needs 0 (pin_drivers chained.gates) (by_driver (before_input k)) layout (with_inputs chained input (input_wires chained input next (suc more)) layout)) e
    (by (is_used input (uses_of chained.gates)) (sym (is_used-uses_of chained.gates input)) made (λ from lay are keeps drives. Drives-inputs chained start (input + 1) from more lay are keeps drives))
  where
    by : (used : Bool) → list_any (same_driver (Input input)) (pin_drivers chained.gates) ≡ used →
        AreInputs start.wires input (cond used (Some next) None ∷ input_wires chained (input + 1) (next + cond used 1 0) more) →
        ((from : ℕ) (lay : Layout) → AreInputs start.wires (input + 1) (input_wires chained (input + 1) from more) →
        AreKept start (so_far start lay) →
        Drives start chained.needs 0 (pin_drivers chained.gates) (by_driver (before_input (input + 1))) lay →
        Step start chained.needs 0 (pin_drivers chained.gates) (by_driver (before_input ((input + 1) + more))) lay (with_inputs chained (input + 1) (input_wires chained (input + 1) from more) lay)) →
        Step start chained.needs 0 (pin_drivers chained.gates) (by_driver (before_input ((input + 1) + more))) layout (with_inputs chained input (cond used (Some next) None ∷ input_wires chained (input + 1) (next + cond used 1 0) more) layout)
    by true used made rest =
        let lay = with_chain chained.n 0 next (taps_of chained (Input input)) layout in
        let done = Drives-chain start chained.needs [] (pin_drivers chained.gates) (before_input input) (Input input) chained.n 0 next layout tt
        (before_input-late input) ((tap_count-some chained.needs (Input input) 0 (pin_drivers chained.gates)).0 used) h (kept.wires next (Input input) made.0) in
        let agreed = Drives-agree start chained.needs 0 (pin_drivers chained.gates) (by_driver (and_driver (before_input input) (Input input))) (by_driver (before_input (input + 1))) lay
        (MarksAgree-all (by_driver (and_driver (before_input input) (Input input))) (by_driver (before_input (input + 1))) chained.needs 0 (pin_drivers chained.gates) (λ driver need. before_input-next input driver)) done.drives in
        let last = with_inputs chained (input + 1) (input_wires chained (input + 1) (next + 1) more) lay in
        Step-then start chained.needs 0 (pin_drivers chained.gates) (by_driver (before_input ((input + 1) + more))) layout lay last done.kept
        (rest (next + 1) lay made.1 (AreKept-then start (so_far start layout) (so_far start lay) kept done.kept) agreed)
    by false unused made rest =
        rest (next + 0) layout made kept
        (Drives-agree start chained.needs 0 (pin_drivers chained.gates) (by_driver (and_driver (before_input input) (Input input))) (by_driver (before_input (input + 1))) layout
        (MarksAgree-all (by_driver (and_driver (before_input input) (Input input))) (by_driver (before_input (input + 1))) chained.needs 0 (pin_drivers chained.gates) (λ driver need. before_input-next input driver))
        (Drives-agree start chained.needs 0 (pin_drivers chained.gates) (by_driver (before_input input)) (by_driver (and_driver (before_input input) (Input input))) layout
        (MarksAgree-unused chained.needs (before_input input) (Input input) 0 (pin_drivers chained.gates) unused) h))
