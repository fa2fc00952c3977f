-- The whole netlist: behind the last gate the wires of the outputs wait, and no other, so each wire is used once.
use Rattle.std.proofs.Common.{◌≡◌, ◌≤◌, ◌<◌, ℕ, suc, ◌+◌, ◌*◌, Bool, true, false, nat_eq, ◌||◌, ◌==◌, List, [], ◌∷◌, ◌++◌, length, get_or, replicate, All, refl, ap, sym, subst, ◌∙◌, arith}
use Rattle.std.proofs.lemmas.Bool.{true≢false, lt-ltb, le-ltb, or_left, or_right}
use Rattle.std.proofs.lemmas.List.{append-nil, length-replicate}
use Rattle.std.proofs.lemmas.List.Elements.{All-nil, All-head, All-tail}
use Rattle.std.specs.Prelude.{Option, flat_map, option_to_list}
use Rattle.std.specs.List.{list_any}
use Rattle.std.specs.Cmp.{nat_eq_equiv}
use Rattle.gate_net.specs.declared.row.Driver.{Driver}
use Rattle.gate_net.specs.declared.row.Driver.TheVariants.{Input, Gate}
use Rattle.gate_net.specs.declared.row.End.{End}
use Rattle.gate_net.specs.declared.row.End.TheVariants.{Zero as False, One as True, From}
use Rattle.gate_net.specs.declared.row.GateRow.{GateRow}
use Rattle.gate_net.specs.Net.{IsThere, IsEndThere, IsGate, AreGates, pin_drivers, end_drivers}
use Rattle.gate_net.proofs.CallerLemmas.{All-end_drivers, pin_drivers-there}
use Rattle.pulse_net.specs.declared.net.Names.{Names}
use Rattle.pulse_net.specs.Formed.{HasItsPins}
use Rattle.pulse_net.specs.Wires.{Wires, element_uses, outlet_uses, input_stage, used_wires, input_entries}
use Rattle.pulse_net.specs.Wired.{makes_of, OutletsInTime, IsWired}
use Rattle.pulse_net.specs.Validity.{has_wire}
use Rattle.pulse_net.proofs.CallerLemmas.{unbroken}
use Rattle.dro_chains.specs.declared.chain.Chained.{Chained}
use Rattle.splitters.specs.Elements.{wire_count, with_inputs, gate_pins, outlets, inputs_of, empty_layout, layout_of, elements_of}
use Rattle.splitters.specs.Taps.{with_pin, tap_count}
use Rattle.splitters.specs.Laws.{tap_stage, PinsInTime, KeepsTime, LayoutIsValid}
use Rattle.splitters.proofs.valid.Multiplicity.{times, times-append, run, run-split, after, AreFound, once-same, distinct-once, among-times, times-among}
use Rattle.splitters.proofs.valid.Pins.{Marks, held, AreStaged, MarksAgree}
use Rattle.splitters.proofs.tapped.Takers.{DrivesNone}
use Rattle.splitters.proofs.valid.Chains.{Stands, Stands-agree, by_driver, tap_count-late}
use Rattle.splitters.proofs.valid.Gates.{pin_wires, AreReached, held-reached, before_gate, before_gate-there, AreGatesFrom, tap_count-gate, Stands-gates, DrivesNone-there, DrivesNone-append}
use Rattle.splitters.proofs.valid.Inputs.{times-run_out, times-run_once, input_wires-run, length-input_wires, found-input, found-no_input, before_input, Stands-inputs}

-- ---- outputs

outlets-uses : (taken : List ℕ) (pin : ℕ) (ends : List End) → flat_map outlet_uses (outlets taken pin ends) ≡ pin_wires taken pin (flat_map end_drivers ends)
outlets-uses taken pin [] = refl
outlets-uses taken pin (False ∷ ends) = outlets-uses taken pin ends
outlets-uses taken pin (True ∷ ends) = outlets-uses taken pin ends
outlets-uses taken pin (From driver ∷ ends) = ap (λ ws. get_or taken pin 0 ∷ ws) (outlets-uses taken (pin + 1) ends)

length-outlets : (taken : List ℕ) (pin : ℕ) (ends : List End) → length (outlets taken pin ends) ≡ length ends
length-outlets taken pin [] = refl
length-outlets taken pin (False ∷ ends) = ap suc (length-outlets taken pin ends)
length-outlets taken pin (True ∷ ends) = ap suc (length-outlets taken pin ends)
length-outlets taken pin (From driver ∷ ends) = ap suc (length-outlets taken (pin + 1) ends)

outlets-timed : (chained : Chained) (made : Wires ℕ) (reached : Driver → Bool) (taken : List ℕ) (user pin : ℕ) (ends : List End) → AreReached reached (flat_map end_drivers ends) →
    PinsInTime chained user pin (flat_map end_drivers ends) → AreStaged made (tap_stage chained) (by_driver reached) chained.needs taken pin (flat_map end_drivers ends) →
    OutletsInTime chained.n user made (outlets taken pin ends)
outlets-timed chained made reached taken user pin [] all timed h = tt
outlets-timed chained made reached taken user pin (False ∷ ends) all timed h = (tt, outlets-timed chained made reached taken user pin ends all timed h)
outlets-timed chained made reached taken user pin (True ∷ ends) all timed h = (tt, outlets-timed chained made reached taken user pin ends all timed h)
outlets-timed chained made reached taken user pin (From driver ∷ ends) all timed h =
    ((tap_stage chained driver (get_or chained.needs pin 0), h.0 all.0, timed.0), outlets-timed chained made reached taken user (pin + 1) ends all.1 timed.1 h.1)

outlets-some : (taken : List ℕ) (pin : ℕ) (ends : List End) → list_any has_wire (outlets taken pin ends) ≡ false → flat_map end_drivers ends ≡ []
outlets-some taken pin [] h = refl
outlets-some taken pin (False ∷ ends) h = outlets-some taken pin ends h
outlets-some taken pin (True ∷ ends) h = outlets-some taken pin ends h
outlets-some taken pin (From driver ∷ ends) h = absurd (true≢false h)

-- ---- drivers that are there

pub ends-reached : (inputs gates : ℕ) (ends : List End) → All (IsEndThere inputs gates) ends → AreReached (before_gate gates) (flat_map end_drivers ends)
ends-reached inputs gates ends all = before_gate-there inputs gates (flat_map end_drivers ends) (All-end_drivers inputs gates ends all)

gates-from : (inputs gate : ℕ) (rows : List GateRow) → ((place : ℕ) (d : GateRow) → place < length rows → IsGate inputs (gate + place) (get_or rows place d)) → AreGatesFrom inputs gate rows
gates-from inputs gate [] h = tt
gates-from inputs gate (row ∷ rows) h =
    let z : gate + 0 ≡ gate = omega arith in (
      subst (λ g. IsGate inputs g row) z (h 0 row (omega arith)),
      gates-from inputs (gate + 1) rows (λ place d low. let e : gate + suc place ≡ (gate + 1) + place = omega arith in subst (λ g. IsGate inputs g (get_or rows place d)) e (h (suc place) d (omega arith))),
    )

pub gates-all : (inputs : ℕ) (rows : List GateRow) → AreGates inputs rows → AreGatesFrom inputs 0 rows
gates-all inputs rows gates = gates-from inputs 0 rows (λ place d low. let z : place ≡ 0 + place = omega arith in subst (λ g. IsGate inputs g (get_or rows place d)) z (gates place d low))

-- behind the last input the first gate's turn comes
pub MarksAgree-first : (inputs gates : ℕ) (needs : List ℕ) (pin : ℕ) (drivers : List Driver) → All (IsThere inputs gates) drivers → MarksAgree (by_driver (before_input (0 + inputs))) (by_driver (before_gate 0)) needs pin drivers
MarksAgree-first inputs gates needs pin [] there = tt
MarksAgree-first inputs gates needs pin (driver ∷ drivers) there =
    (by driver (All-head (IsThere inputs gates) driver drivers there), MarksAgree-first inputs gates needs (pin + 1) drivers (All-tail (IsThere inputs gates) driver drivers there))
  where
    by : (driver : Driver) → IsThere inputs gates driver → before_gate 0 driver ≡ before_input (0 + inputs) driver
    by (Input i) there = sym (lt-ltb i (0 + inputs) (omega arith))
    by (Gate k) there = le-ltb k 0 (omega arith)

-- before the first input nothing waits
held-none : (marks : Marks) (needs taken : List ℕ) (pin : ℕ) (drivers : List Driver) → ((driver : Driver) (need : ℕ) → marks driver need ≡ false) → held marks needs taken pin drivers ≡ []
held-none marks needs taken pin [] none = refl
held-none marks needs taken pin (driver ∷ drivers) none =
    ap (λ b. with_pin b (get_or taken pin 0) (held marks needs taken (pin + 1) drivers)) (none driver (get_or needs pin 0)) ∙ held-none marks needs taken (pin + 1) drivers none

pub AreStaged-none : {A : Type 0} (made : Wires A) (stage : Driver → ℕ → A) (marks : Marks) (needs taken : List ℕ) (pin : ℕ) (drivers : List Driver) → ((driver : Driver) (need : ℕ) → marks driver need ≡ false) → AreStaged made stage marks needs taken pin drivers
AreStaged-none made stage marks needs taken pin [] none = tt
AreStaged-none made stage marks needs taken pin (driver ∷ drivers) none =
    (λ e. absurd (true≢false (sym e ∙ none driver (get_or needs pin 0))), AreStaged-none made stage marks needs taken (pin + 1) drivers none)

pub before_input-none : (driver : Driver) → before_input 0 driver ≡ false
before_input-none (Input i) = le-ltb i 0 (omega arith)
before_input-none (Gate k) = refl

-- ---- the latency

-- no gate drives a pin of a gate before it, nor of itself
none-last : (inputs gate later : ℕ) (rows : List GateRow) → AreGatesFrom inputs gate rows → gate + length rows ≤ suc later → DrivesNone (Gate later) (flat_map (λ (row : GateRow). row.pins) rows)
none-last inputs gate later [] gates low = tt
none-last inputs gate later (row ∷ rows) gates low =
    DrivesNone-append (Gate later) row.pins (flat_map (λ (row : GateRow). row.pins) rows)
    (DrivesNone-there inputs gate later row.pins (omega arith) gates.0.drivers) (none-last inputs (gate + 1) later rows gates.1 (omega arith))

-- where no output has a driver, the last gate has no use: so there is no gate
no-gates : (inputs : ℕ) (needs : List ℕ) (rows : List GateRow) (outs : List Driver) → AreGatesFrom inputs 0 rows → outs ≡ [] →
    ((k : ℕ) → k < length rows → 1 ≤ tap_count needs (Gate k) 0 (flat_map (λ (row : GateRow). row.pins) rows ++ outs)) → rows ≡ []
no-gates inputs needs [] outs gates none tapped = refl
no-gates inputs needs (row ∷ rows) outs gates none tapped =
    let last = length rows in
    let all = flat_map (λ (row : GateRow). row.pins) (row ∷ rows) in
    let some : 1 ≤ tap_count needs (Gate last) 0 (all ++ outs) = tapped last (omega arith) in
    let late = tap_count-late needs (Gate last) 0 all outs (none-last inputs 0 last (row ∷ rows) gates (omega arith)) in
    let empty : tap_count needs (Gate last) (0 + length all) outs ≡ 0 = ap (λ (l : List Driver). tap_count needs (Gate last) (0 + length all) l) none in
    absurd (omega (arith, some, late, empty))

latency-one : (latency : ℕ) (some : Bool) → (some ≡ false → latency ≡ 1) → ((latency == 1) || some) ≡ true
latency-one latency true one = or_right (latency == 1) true refl
latency-one latency false one = or_left (latency == 1) false (ap (λ n. nat_eq n 1) (one refl))

-- ---- the whole

-- nothing is laid out yet, and the inputs' wires wait
Stands-empty : (chained : Chained) →
    Stands chained.n (wire_count (inputs_of chained)) (input_entries input_stage 0 (inputs_of chained)) (tap_stage chained) chained.needs 0 (pin_drivers chained.gates) (by_driver (before_input 0))
    (λ w. times w (flat_map option_to_list (inputs_of chained))) (empty_layout chained)
Stands-empty chained =
    let wires = inputs_of chained in
    let first = wire_count wires in
    let taken : List ℕ = replicate (length (pin_drivers chained.gates)) 0 in
    let many : length taken ≡ length (pin_drivers chained.gates) = length-replicate {A = ℕ} (length (pin_drivers chained.gates)) 0 in
    let made = input_wires-run chained 0 0 chained.gates.inputs in
    let marks = by_driver (before_input 0) in
    let nothing = held-none marks chained.needs taken 0 (pin_drivers chained.gates) (λ driver need. before_input-none driver) in
    record {
      laid = record {
        in_time = tt;
        pins = All-nil HasItsPins;
        count = 0;
        reaches = omega arith;
        makes = refl;
        fresh = λ w high. found-no_input wires 0 w (ap (times w) made ∙ times-run_out w 0 first (omega arith));
        balance = λ w. let e = ap (times w) made in let f = ap (times w) nothing in omega (arith, e, f);
      };
      staged = AreStaged-none (input_entries input_stage 0 wires) (tap_stage chained) marks chained.needs taken 0 (pin_drivers chained.gates) (λ driver need. before_input-none driver);
      room = omega (arith, many);
    }

inputs-found : (wires : List (Option ℕ)) (some : List ℕ) → ((wire : ℕ) → 1 ≤ times wire some → 1 ≤ times wire (flat_map option_to_list wires)) → AreFound (input_entries input_stage 0 wires) 0 some
inputs-found wires [] within = tt
inputs-found wires (wire ∷ some) within =
    let one = once-same wire wire (nat_eq_equiv.refl wire) in
    (found-input wires 0 wire (within wire (omega (arith, one))), inputs-found wires some (λ other h. within other (omega (arith, h))))

-- Behind the last gate the pins of the outputs wait, and no other wire.
Stands-layout : (chained : Chained) → KeepsTime chained →
    Stands chained.n (wire_count (inputs_of chained)) (input_entries input_stage 0 (inputs_of chained)) (tap_stage chained) chained.needs (gate_pins chained.gates.gates) (flat_map end_drivers chained.gates.outputs)
    (by_driver (before_gate (length chained.gates.gates))) (λ w. 0) (layout_of chained)
Stands-layout chained timed =
    let n = chained.n in
    let inputs = chained.gates.inputs in
    let rows = chained.gates.gates in
    let outs = flat_map end_drivers chained.gates.outputs in
    let all = pin_drivers chained.gates in
    let wires = inputs_of chained in
    let first = wire_count wires in
    let start = input_entries input_stage 0 wires in
    let stage = tap_stage chained in
    let gates : AreGatesFrom inputs 0 rows = gates-all inputs rows timed.formed.gates in
    let laid_inputs = Stands-inputs chained first start 0 0 inputs (empty_layout chained) timed.some_phase (inputs-found wires (flat_map option_to_list wires) (λ w h. h)) (Stands-empty chained) in
    let layout = with_inputs chained 0 wires (empty_layout chained) in
    let begun : Stands n first start stage chained.needs 0 all (by_driver (before_gate 0)) (λ w. 0) layout =
    Stands-agree n first start stage chained.needs 0 all (by_driver (before_input (0 + inputs))) (by_driver (before_gate 0)) (λ w. 0) layout (MarksAgree-first inputs (length rows) chained.needs 0 all (pin_drivers-there chained.gates timed.formed)) laid_inputs in
    let done = Stands-gates chained first start [] outs 0 0 rows layout timed.some_phase refl refl gates (λ later low. tt)
    (λ k low high. tap_count-gate chained k (timed.used k (omega arith))) timed.gates begun in
    let p : 0 + gate_pins rows ≡ gate_pins rows = omega arith in
    let g : 0 + length rows ≡ length rows = omega arith in
    subst (λ k. Stands n first start stage chained.needs (gate_pins rows) outs (by_driver (before_gate k)) (λ w. 0) (layout_of chained)) g
    (subst (λ k. Stands n first start stage chained.needs k outs (by_driver (before_gate (0 + length rows))) (λ w. 0) (layout_of chained)) p done)

-- each wire is made once, and is used exactly as often as it is made
makes-run : (chained : Chained) (names : Names) → KeepsTime chained → makes_of (elements_of chained names) ≡ run 0 (layout_of chained).next
makes-run chained names timed =
    let end = (Stands-layout chained timed).laid in
    let first = wire_count (inputs_of chained) in
    let z : 0 + first ≡ first = omega arith in
    (λ i. input_wires-run chained 0 0 chained.gates.inputs i ++ end.makes i) ∙ sym (run-split 0 first first end.count z) ∙ ap (run 0) end.reaches

uses-balance : (chained : Chained) (names : Names) → KeepsTime chained → (w : ℕ) → times w (used_wires (elements_of chained names)) ≡ times w (run 0 (layout_of chained).next)
uses-balance chained names timed w =
    let end = Stands-layout chained timed in
    let layout = layout_of chained in
    let rows = chained.gates.gates in
    let ends = chained.gates.outputs in
    let outs = flat_map end_drivers ends in
    let used = outlets-uses layout.taken (gate_pins rows) ends in
    let reached = ends-reached chained.gates.inputs (length rows) ends timed.formed.outputs in
    let waiting = held-reached (before_gate (length rows)) chained.needs layout.taken (gate_pins rows) outs [] reached in
    let nil = append-nil outs in
    let a : held (by_driver (before_gate (length rows))) chained.needs layout.taken (gate_pins rows) outs ≡ pin_wires layout.taken (gate_pins rows) outs =
    ap (λ (l : List Driver). held (by_driver (before_gate (length rows))) chained.needs layout.taken (gate_pins rows) l) (sym nil) ∙ waiting ∙ append-nil (pin_wires layout.taken (gate_pins rows) outs) in
    let b = end.laid.balance w in
    let c = ap (times w) a in
    let d = ap (times w) used in
    let e = times-append w (flat_map element_uses layout.elements) (flat_map outlet_uses (outlets layout.taken (gate_pins rows) ends)) in
    omega (arith, b, c, d, e)

IsWired-layout : (chained : Chained) (names : Names) → KeepsTime chained → IsWired (elements_of chained names)
IsWired-layout chained names timed =
    let end = Stands-layout chained timed in
    let layout = layout_of chained in
    let rows = chained.gates.gates in
    let ends = chained.gates.outputs in
    let outs = flat_map end_drivers ends in
    let inputs = chained.gates.inputs in
    let start = input_entries input_stage 0 (inputs_of chained) in
    let made = makes-run chained names timed in
    let used = uses-balance chained names timed in
    let gates : AreGatesFrom inputs 0 rows = gates-all inputs rows timed.formed.gates in
    record {
      elements = end.laid.in_time;
      outputs = outlets-timed chained (after start layout.elements) (before_gate (length rows)) layout.taken (chained.n * chained.latency) (gate_pins rows) ends
          (ends-reached inputs (length rows) ends timed.formed.outputs) timed.outputs end.staged;
      made_once = distinct-once (makes_of (elements_of chained names)) (λ w. let e = ap (times w) made in let o = times-run_once w 0 layout.next in omega (arith, e, o));
      used_once = distinct-once (used_wires (elements_of chained names)) (λ w. let e = used w in let o = times-run_once w 0 layout.next in omega (arith, e, o));
      all_used = λ w h. let m = among-times (makes_of (elements_of chained names)) w h in let e = ap (times w) made in let f = used w in
          times-among (used_wires (elements_of chained names)) w (omega (arith, m, e, f));
      latency = latency-one chained.latency (list_any has_wire (outlets layout.taken (gate_pins rows) ends))
          (λ none. let no_outs = outlets-some layout.taken (gate_pins rows) ends none in
          let no_rows = no-gates inputs chained.needs rows outs gates no_outs (λ k low. tap_count-gate chained k (timed.used k low)) in
          timed.empty (λ i. flat_map (λ (row : GateRow). row.pins) (no_rows i) ++ no_outs i));
    }

-- Where the chains keep time, the netlist is valid.
pub layout_is_valid : LayoutIsValid
layout_is_valid chained names timed named =
    let end = Stands-layout chained timed in
    record {
      formed = record {
        some_phases = timed.some_phase;
        few_phases = timed.few_phases;
        latency = timed.latency;
        pins = end.laid.pins;
        inputs = length-input_wires chained 0 0 chained.gates.inputs ∙ sym named.inputs;
        outputs = length-outlets (layout_of chained).taken (gate_pins chained.gates.gates) chained.gates.outputs ∙ sym named.outputs;
      };
      unbroken = unbroken (elements_of chained names) (IsWired-layout chained names timed);
    }
