-- In a valid netlist the pulses are the row values, and so is what is read at the outputs.
pub mod WindowLemma
pub mod SpreadRows
mod PulseInduction
use Rattle.std.proofs.Common.{◌≡◌, ℕ, zero, suc, ◌+◌, ◌*◌, ◌%◌, ◌≤◌, Bool, false, List, [], ◌∷◌, get_or, sym, ◌∙◌, arith}
use Rattle.std.specs.Prelude.{Option, slice_index_or}
use Rattle.std.proofs.lemmas.Bool.{eqb-true, eq-eqb, true≢false, false_from_ne_true}
use Rattle.std.proofs.Math.Nat.{mul-mod_right, mul-add-mod_self_left}
use Rattle.pulse_net.specs.declared.net.Element.{Element}
use Rattle.pulse_net.specs.declared.net.Outlet.{Outlet}
use Rattle.pulse_net.specs.declared.net.Outlet.TheVariants.{Zero, One, Wire}
use Rattle.pulse_net.specs.declared.net.PulseNet.{PulseNet}
use Rattle.pulse_net.specs.Formed.{outlet_at}
use Rattle.pulse_net.specs.Wires.{Wires, carried, input_entries, after_elements, input_stage, cell_stage, stages_of}
use Rattle.pulse_net.specs.Validity.{IsValid}
use Rattle.pulse_net.specs.Pulses.{Signal, silence, pulsed_within, signals_of, outlet_signal, spread, input_signal, cell_signal}
use Rattle.pulse_net.specs.RowValues.{row_values, outlet_value, input_value, stageless_value}
use Rattle.pulse_net.specs.Laws.{PulsesAreRowValues, ReadsAreRowValues}
use Rattle.pulse_net.proofs.PulsesAreRowValues.WindowLemma.{pulsed_within-at_clock, pulsed_within-tick}
use Rattle.pulse_net.specs.Wired.{ElementsInTime, OutletInTime, OutletsInTime}
use Rattle.pulse_net.proofs.UnbrokenIsWired.{wired}
use Rattle.pulse_net.proofs.RelatedWires.{related-found}
use Rattle.pulse_net.proofs.PulsesAreRowValues.PulseInduction.{Aligned, elements_carry, inputs_carry}

-- each wire carries its row value, where the sources of all elements are made in time
carry : (n : ℕ) → 1 ≤ n → (rows : List (List Bool)) (c : ℕ) (inputs : List (Option ℕ)) (elements : List Element) → ElementsInTime n (input_entries input_stage 0 inputs) elements → Aligned n c (after_elements 0 cell_stage (input_entries input_stage 0 inputs) elements) (after_elements false stageless_value (input_entries (input_value (get_or rows c [])) 0 inputs) elements) (after_elements silence (cell_signal n) (input_entries (input_signal (spread n rows)) 0 inputs) elements)
carry zero some rows c inputs elements h = absurd (omega arith)
carry (suc k) some rows c inputs elements h = elements_carry (suc k) c elements _ _ _ (inputs_carry k c rows inputs 0) h

-- An output is read like a pin of a cell at stage n * E: in the window before tick n * (c + E) it shows its value over row c.
outlet_reads : (n : ℕ) → 1 ≤ n → (c latency : ℕ) → 1 ≤ latency → (stages : Wires ℕ) (values : Wires Bool) (signals : Wires Signal) → Aligned n c stages values signals → (outlet : Outlet) → OutletInTime n (n * latency) stages outlet → pulsed_within (outlet_signal n signals outlet) (n * (c + latency)) n ≡ outlet_value values outlet
outlet_reads n some c latency late stages values signals p Zero h =
    false_from_ne_true (pulsed_within (outlet_signal n signals Zero) (n * (c + latency)) n) (λ e. let w = pulsed_within-tick (outlet_signal n signals Zero) (n * (c + latency)) n e in true≢false (sym w.3))
outlet_reads n some c zero late stages values signals p One h = absurd (omega arith)
outlet_reads n some c (suc before) late stages values signals p One h =
    let e : n * (c + suc before) ≡ n * (c + before) + n = grind arith in
    let first : n * (c + before) % n ≡ 0 = mul-mod_right n (c + before) in
    pulsed_within-at_clock n (outlet_signal n signals One) (n * (c + suc before)) (n * (c + before)) (λ t q. eqb-true (t % n) 0 q ∙ sym first) (omega arith) (omega arith) ∙ eq-eqb (n * (c + before) % n) 0 first
outlet_reads n some c latency late stages values signals p (Wire wire) h =
    let s = h.0 in
    let time = h.2 in
    let pulses = related-found false silence wire s p h.1 in
    let clock : (n * c + s) % n ≡ s % n = mul-add-mod_self_left n c s in
    let e : n * (c + latency) ≡ n * c + n * latency = grind arith in
    pulsed_within-at_clock n (carried silence signals wire) (n * (c + latency)) (n * c + s) (λ t q. pulses.clocked t q ∙ sym clock) (omega (arith, time.after)) (omega (arith, time.within)) ∙ pulses.on_time

outlets-at : (n user : ℕ) (made : Wires ℕ) (outlets : List Outlet) (output : ℕ) → OutletsInTime n user made outlets → OutletInTime n user made (slice_index_or outlets output Zero)
outlets-at n user made [] output h = tt
outlets-at n user made (outlet ∷ outlets) zero h = h.0
outlets-at n user made (outlet ∷ outlets) (suc output) h = outlets-at n user made outlets output h.1

module _ (net : PulseNet) (valid : IsValid net) where
  aligned-valid : (rows : List (List Bool)) (c : ℕ) → Aligned net.phases c (stages_of net) (row_values net (get_or rows c [])) (signals_of net (spread net.phases rows))
  aligned-valid rows c = carry net.phases valid.formed.some_phases rows c net.inputs net.elements (wired net valid.unbroken).elements

pub pulses_are_row_values : PulsesAreRowValues
pulses_are_row_values net rows wire stage valid made =
    let at = λ (c : ℕ). related-found false silence wire stage (aligned-valid net valid rows c) made in
    record { clocked = λ tick pulse. (at 0).clocked tick pulse; on_time = λ c within. (at c).on_time }

pub reads_are_row_values : ReadsAreRowValues
reads_are_row_values net rows output c valid within =
    outlet_reads net.phases valid.formed.some_phases c net.latency valid.formed.latency (stages_of net) (row_values net (get_or rows c [])) (signals_of net (spread net.phases rows)) (aligned-valid net valid rows c) (outlet_at net output) (outlets-at net.phases (net.phases * net.latency) (stages_of net) net.outputs output (wired net valid.unbroken).outputs)
