-- In a valid netlist the unfolded gates are a gate netlist, and the pulses are the values of the gates.
mod DriverValues
mod GatesSoFar
mod UnfoldingInduction
use Rattle.std.proofs.Common.{◌≡◌, ◌<◌, ◌≤◌, ◌+◌, ◌*◌, ◌/◌, ◌%◌, ◌^◌, ℕ, zero, suc, Bool, false, nat_eq, List, [], ◌∷◌, ◌++◌, length, map, get_or, refl, sym, ap, subst, ◌∙◌, arith}
use Rattle.std.specs.Prelude.{unwrap_or, flat_map, Result, Ok, Err, IfOk}
use Rattle.std.specs.List.{IsDistinct, AllByRecursion}
use Rattle.std.proofs.lemmas.List.{length-map, get_or-map}
use Rattle.std.proofs.lemmas.List.Elements.{All-from_recursion, recursion_from_All}
use Rattle.gate_net.specs.declared.row.Driver.TheVariants.{Input}
use Rattle.gate_net.specs.declared.row.End.TheVariants as ends
use Rattle.gate_net.specs.Net.{IsEndThere, IsGateNet}
use Rattle.gate_net.specs.Values.{end_value}
use Rattle.flow_net.specs.Levels.{phases_of}
use Rattle.pulse_net.specs.declared.net.Outlet.{Outlet}
use Rattle.pulse_net.specs.declared.net.Outlet.TheVariants.{Zero, One, Wire}
use Rattle.pulse_net.specs.declared.net.PulseNet.{PulseNet}
use Rattle.pulse_net.specs.declared.unfolding.Unfolded.{Unfolded}
use Rattle.pulse_net.specs.Formed.{HasItsPins}
use Rattle.pulse_net.specs.Wires.{Wires, stages_of}
use Rattle.pulse_net.specs.Validity.{IsValid}
use Rattle.pulse_net.specs.Wired.{element_makes, OutletsInTime}
use Rattle.pulse_net.specs.RowValues.{row_values, outlet_value}
use Rattle.pulse_net.specs.Laws.{row_of, spread_signal}
use Rattle.pulse_net.specs.Unfolding.{Unfolding, end_of, epochs_of, nothing_unfolded, unfold_inputs, unfolding_of, unfolded_from, unfolded, gate_wires}
use Rattle.pulse_net.specs.GatePulses.{GatePulses, PulsesAreGateValues}
use Rattle.pulse_net.proofs.WiresMadeOnce.{keys-inputs}
use Rattle.pulse_net.proofs.UnbrokenIsWired.{wired}
use Rattle.pulse_net.proofs.PulsesAreRowValues.{pulses_are_row_values, reads_are_row_values}
use Rattle.pulse_net.proofs.RelatedWires.{none, related-found}
use Rattle.pulse_net.proofs.PulsesAreGateValues.DriverValues.{Agree}
use Rattle.pulse_net.proofs.PulsesAreGateValues.GatesSoFar.{Traced}
use Rattle.pulse_net.proofs.UnfoldedGateCount.{gates-inputs, gates-elements}
use Rattle.pulse_net.proofs.PulsesAreGateValues.UnfoldingInduction.{elements_traced, inputs_traced}

-- before any input nothing is known
nothing_traced : (inputs : ℕ) (bits : List Bool) → Traced inputs bits [] [] nothing_unfolded []
nothing_traced inputs bits = record {
  wires = none;
  known = record {
    formed = λ place d within. absurd (omega arith);
    each_stage = refl;
    each_wire = refl;
    staged = λ k within. absurd (omega arith);
    valued = λ k within. absurd (omega arith);
  };
}

-- a valid netlist, unfolded
traced : (net : PulseNet) → IsValid net → (bits : List Bool) → Traced (length net.inputs) bits (stages_of net) (row_values net bits) (unfolding_of net) (gate_wires net)
traced net valid bits =
    let w = wired net valid.unbroken in
    let start = inputs_traced (length net.inputs) bits [] [] nothing_unfolded [] (nothing_traced (length net.inputs) bits) net.inputs 0 (omega arith) (flat_map element_makes net.elements) w.made_once in
    let distinct = subst (λ (k : List ℕ). IsDistinct nat_eq (k ++ flat_map element_makes net.elements)) (sym (keys-inputs net.inputs 0)) w.made_once in
    elements_traced (length net.inputs) bits _ _ _ [] start net.phases net.elements w.elements (recursion_from_All HasItsPins net.elements valid.formed.pins) distinct

-- the drivers of outputs are there,
ends_there : (inputs : ℕ) (bits : List Bool) (a : Wires ℕ) (b : Wires Bool) (so : Unfolding) → Agree inputs bits so.gates a b so.wires → (n user : ℕ) (outlets : List Outlet) → OutletsInTime n user a outlets → AllByRecursion (IsEndThere inputs (length so.gates)) (map (end_of so.wires) outlets)
ends_there inputs bits a b so p n user [] h = tt
ends_there inputs bits a b so p n user (Zero ∷ outlets) h = (tt, ends_there inputs bits a b so p n user outlets h.1)
ends_there inputs bits a b so p n user (One ∷ outlets) h = (tt, ends_there inputs bits a b so p n user outlets h.1)
ends_there inputs bits a b so p n user (Wire wire ∷ outlets) h = ((related-found false (Input 0) wire h.0.0 p h.0.1).there, ends_there inputs bits a b so p n user outlets h.1)

pub is_gate_net : (net : PulseNet) → IsValid net → length net.elements < 2 ^ 31 → length net.outputs < 2 ^ 31 → IsGateNet (unfolded net).gates
is_gate_net net valid few many =
    let so = unfolding_of net in
    let t = traced net valid [] in
    record {
      gates = t.known.formed;
      outputs = All-from_recursion (IsEndThere (length net.inputs) (length so.gates)) (map (end_of so.wires) net.outputs) (ends_there (length net.inputs) [] (stages_of net) (row_values net []) so t.wires net.phases (net.phases * net.latency) net.outputs (wired net valid.unbroken).outputs);
      few_gates = few_gates;
      few_outputs = omega (arith, length-map net.outputs (end_of so.wires));
    }
  where
    few_gates : length (unfolding_of net).gates < 2 ^ 31
    few_gates = omega (arith, gates-elements net.elements (unfold_inputs 0 net.inputs nothing_unfolded), ap length (gates-inputs net.inputs 0 nothing_unfolded))

-- a stage is n epochs and a phase
stage-parts : (n stage epoch phase : ℕ) → 1 ≤ n → epoch ≡ stage / n → phase ≡ stage % n → n * epoch + phase ≡ stage
stage-parts n stage epoch phase some e p =
    let whole : n * (stage / n) + stage % n ≡ stage = omega arith in
    ap (λ x. n * x + phase) e ∙ ap (λ y. n * (stage / n) + y) p ∙ whole

gate_pulses : (net : PulseNet) → IsValid net → (rows : List (List Bool)) (k : ℕ) → k < length (unfolding_of net).gates → GatePulses net (unfolded net) rows k
gate_pulses net valid rows k within =
    let so = unfolding_of net in
    let n = net.phases in
    let wire = get_or (gate_wires net) k 0 in
    let stage = get_or so.stages k 0 in
    let known = λ (bits : List Bool). (traced net valid bits).known in
    let pulses = pulses_are_row_values net rows wire stage valid ((known []).staged k within) in
    let stages : length so.stages ≡ length so.gates = (known []).each_stage in
    let short : k < length so.stages = omega arith in
    let phase : get_or (phases_of n so.stages) k 0 ≡ stage % n = get_or-map (λ s. s % n) so.stages k 0 0 short in
    let epoch : get_or (epochs_of n so.stages) k 0 ≡ stage / n = get_or-map (λ s. s / n) so.stages k 0 0 short in
    let whole = stage-parts n stage (get_or (epochs_of n so.stages) k 0) (get_or (phases_of n so.stages) k 0) valid.formed.some_phases epoch phase in
    record {
      clocked = λ tick pulse. pulses.clocked tick pulse ∙ sym phase;
      on_time = λ c inside.
          ap (λ s. spread_signal net rows wire (n * c + s)) whole ∙ pulses.on_time c inside
          ∙ ap (λ o. unwrap_or o false) ((known (row_of rows c)).valued k within);
    }

-- and have the outputs' values
outlet_values : (net : PulseNet) (bits : List Bool) → Agree (length net.inputs) bits (unfolding_of net).gates (stages_of net) (row_values net bits) (unfolding_of net).wires → (n user : ℕ) (outlets : List Outlet) (output : ℕ) → OutletsInTime n user (stages_of net) outlets → outlet_value (row_values net bits) (get_or outlets output Zero) ≡ end_value (unfolded net).gates bits (get_or (map (end_of (unfolding_of net).wires) outlets) output ends.Zero)
outlet_values net bits p n user [] output h = refl
outlet_values net bits p n user (Zero ∷ outlets) zero h = refl
outlet_values net bits p n user (One ∷ outlets) zero h = refl
outlet_values net bits p n user (Wire wire ∷ outlets) zero h =
    (related-found false (Input 0) wire h.0.0 p h.0.1).worth
outlet_values net bits p n user (outlet ∷ outlets) (suc output) h = outlet_values net bits p n user outlets output h.1

pub pulses_are_gate_values : (net : PulseNet) → IsValid net → PulsesAreGateValues net (unfolded net)
pulses_are_gate_values net valid = record {
  gates = λ rows k within. gate_pulses net valid rows k within;
  outputs = λ rows output c inside.
      let bits = row_of rows c in
      reads_are_row_values net rows output c valid inside
      ∙ outlet_values net bits (traced net valid bits).wires net.phases (net.phases * net.latency) net.outputs output (wired net valid.unbroken).outputs;
}

-- what is answered is the netlist unfolded, so it has what is proved of that
pub answer-value : {E : Type 0} (net : PulseNet) (r : Result Unfolded E) (so : Unfolding) → so ≡ unfolding_of net → IfOk r (λ u. u ≡ unfolded_from net so) → IfOk r (λ u. u ≡ unfolded net)
answer-value net r so e h = subst (λ (t : Unfolding). IfOk r (λ u. u ≡ unfolded_from net t)) e h

pub answer-is_gate_net : {E : Type 0} (net : PulseNet) (r : Result Unfolded E) → IsValid net → length net.elements < 2 ^ 31 → length net.outputs < 2 ^ 31 → IfOk r (λ u. u ≡ unfolded net) → IfOk r (λ u. IsGateNet u.gates)
answer-is_gate_net net (Ok u) valid few many e = subst (λ (u : Unfolded). IsGateNet u.gates) (sym e) (is_gate_net net valid few many)
answer-is_gate_net net (Err error) valid few many e = tt

pub answer-pulses : {E : Type 0} (net : PulseNet) (r : Result Unfolded E) → IsValid net → IfOk r (λ u. u ≡ unfolded net) → IfOk r (λ u. PulsesAreGateValues net u)
answer-pulses net (Ok u) valid e = subst (λ (u : Unfolded). PulsesAreGateValues net u) (sym e) (pulses_are_gate_values net valid)
answer-pulses net (Err error) valid e = tt
