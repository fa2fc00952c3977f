-- Chains that mean a netlist can be laid out: a tap stands before its user, whose stage fits.
use Rattle.std.proofs.Common.{◌≡◌, ◌<◌, ◌^◌, ℕ, zero, suc, ◌+◌, ◌*◌, List, [], ◌∷◌, ◌++◌, length, get_or, subst, arith}
use Rattle.std.specs.Prelude.{⊤, flat_map}
use Rattle.gate_net.specs.declared.row.Driver.{Driver}
use Rattle.gate_net.specs.declared.row.GateRow.{GateRow}
use Rattle.gate_net.specs.Net.{end_drivers, pin_drivers}
use Rattle.flow_net.proofs.CallerLemmas.{length-uses_of, gates-le-uses}
use Rattle.dro_chains.specs.Chains.{chained_of}
use Rattle.dro_chains.proofs.CallerLemmas.{get_or-stages}
use Rattle.dro_chains.specs.declared.chain.Chained.{Chained}
use Rattle.splitters.specs.Elements.{gate_pins}
use Rattle.splitters.specs.Laws.{tap_stage, PinsInTime, GatesInTime, ChainsCanBeSplit}
use Rattle.splitters.proofs.wires.Steps.{length-gate_drivers}
use Rattle.splitters.proofs.valid.Timing.{chains_keep_time}
use Rattle.splitters.proofs.dros.Count.{chains_are_the_count}

-- the stage of the tap of each of these pins, from a number on, fits
abbrev TapsFit : Chained → ℕ → List Driver → Type 0
TapsFit chained pin [] = ⊤
TapsFit chained pin (driver ∷ drivers) = (tap_stage chained driver (get_or chained.needs pin 0) < 2 ^ 32) × TapsFit chained (pin + 1) drivers

pins-fit : (chained : Chained) (user pin : ℕ) (drivers : List Driver) → user < 2 ^ 32 → PinsInTime chained user pin drivers → TapsFit chained pin drivers
pins-fit chained user pin [] low timed = tt
pins-fit chained user pin (driver ∷ drivers) low timed =
    let before = timed.0.after in
    (omega (arith, low, before), pins-fit chained user (pin + 1) drivers low timed.1)

taps-append : (chained : Chained) (pin : ℕ) (before after : List Driver) → TapsFit chained pin before → TapsFit chained (pin + length before) after → TapsFit chained pin (before ++ after)
taps-append chained pin [] after first second =
    let same : pin + 0 ≡ pin = omega arith in
    subst (λ p. TapsFit chained p after) same second
taps-append chained pin (driver ∷ before) after first second =
    let same : pin + suc (length before) ≡ (pin + 1) + length before = omega arith in
    (first.0, taps-append chained (pin + 1) before after first.1 (subst (λ p. TapsFit chained p after) same second))

gates-fit : (chained : Chained) (gate pin : ℕ) (rows : List GateRow) → ((k : ℕ) → k < gate + length rows → get_or chained.stages k 0 < 2 ^ 32) → GatesInTime chained gate pin rows →
    TapsFit chained pin (flat_map (λ (row : GateRow). row.pins) rows)
gates-fit chained gate pin [] stages timed = tt
gates-fit chained gate pin (row ∷ rows) stages timed =
    taps-append chained pin row.pins (flat_map (λ (r : GateRow). r.pins) rows)
    (pins-fit chained (get_or chained.stages gate 0) pin row.pins (stages gate (omega arith)) timed.0)
    (gates-fit chained (gate + 1) (pin + length row.pins) rows (λ k low. stages k (omega (arith, low))) timed.1)

tap-fits : (chained : Chained) (pin : ℕ) (drivers : List Driver) → TapsFit chained pin drivers → (k : ℕ) (d : Driver) → k < length drivers →
    tap_stage chained (get_or drivers k d) (get_or chained.needs (pin + k) 0) < 2 ^ 32
tap-fits chained pin [] fit k d low = absurd (omega arith)
tap-fits chained pin (driver ∷ drivers) fit zero d low =
    let same : pin ≡ pin + 0 = omega arith in
    subst (λ p. tap_stage chained driver (get_or chained.needs p 0) < 2 ^ 32) same fit.0
tap-fits chained pin (driver ∷ drivers) fit (suc k) d low =
    let same : (pin + 1) + k ≡ pin + suc k = omega arith in
    subst (λ p. tap_stage chained (get_or drivers k d) (get_or chained.needs p 0) < 2 ^ 32) same (tap-fits chained (pin + 1) drivers fit.1 k d (omega arith))

-- Chains that mean a netlist can be laid out, where the DROs are not too many: no gate is without a pin, so the wires are few.
pub chains_can_be_split : ChainsCanBeSplit
chains_can_be_split net phases n epochs has few_dros =
    let chained = chained_of net phases n epochs in
    let rows = net.gates in
    let outs = flat_map end_drivers net.outputs in
    let keeps = chains_keep_time net phases n epochs has in
    let each = has.fits.each in
    let phased = has.fits.network.phased in
    let few = has.fits.network.few_pins in
    let many = length-uses_of net in
    let stages : (k : ℕ) → k < 0 + length rows → get_or chained.stages k 0 < 2 ^ 32 =
    λ k low.
    let fits = has.fits.stages k (omega (arith, low, each)) in
    let at = get_or-stages n epochs.gates phases k 0 (omega (arith, low, each)) (omega (arith, low, phased)) in
    omega (arith, fits, at) in
    let gates : TapsFit chained 0 (flat_map (λ (row : GateRow). row.pins) rows) = gates-fit chained 0 0 rows stages keeps.gates in
    let ends : TapsFit chained (gate_pins rows) outs = pins-fit chained (n * epochs.sink) (gate_pins rows) outs has.fits.latency keeps.outputs in
    let all : TapsFit chained 0 (pin_drivers net) =
    let behind : gate_pins rows ≡ 0 + length (flat_map (λ (row : GateRow). row.pins) rows) = omega (arith, length-gate_drivers rows) in
    taps-append chained 0 (flat_map (λ (row : GateRow). row.pins) rows) outs gates (subst (λ p. TapsFit chained p outs) behind ends) in
    record {
      formed = has.fits.network.formed;
      few_pins = omega (arith, few, many);
      stages = λ pin d low.
          let same : 0 + pin ≡ pin = omega arith in
          subst (λ p. tap_stage chained (get_or (pin_drivers net) pin d) (get_or chained.needs p 0) < 2 ^ 32) same (tap-fits chained 0 (pin_drivers net) all pin d low);
      few_wires = omega (arith, few, many, few_dros, chains_are_the_count net phases n epochs has.fits.network.formed, gates-le-uses net has.fits.network.formed);
    }
