-- A signal at a tick doesn't depend on what the inputs do later.
--
-- Over the same elements in the same order, two readings of signals agree at the first ticks: inputs do, since what is
-- appended to a list changes no earlier entry; a splitter hands on what it has; and a cell looks only at ticks before its own.
use Rattle.std.proofs.Common.{◌≡◌, ℕ, zero, suc, ◌<◌, ◌≤◌, ◌+◌, Bool, true, false, ◌||◌, List, [], ◌∷◌, ◌++◌, length, map, get_or, refl, sym, ap, ap₂, arith}
use Rattle.std.proofs.Math.ListN.{get_or-append}
use Rattle.std.specs.Prelude.{Option, Some, None, ◌==◌, ◌%◌}
use Rattle.cell_lib.specs.Cell.{cell_value}
use Rattle.pulse_net.specs.declared.net.Element.{Element}
use Rattle.pulse_net.specs.declared.net.Element.TheVariants.{Clocked, Split}
use Rattle.pulse_net.specs.declared.net.PulseNet.{PulseNet}
use Rattle.pulse_net.specs.Wires.{Wires, carried, input_entries, element_wires, after_elements}
use Rattle.pulse_net.specs.Pulses.{Signal, silence, pulsed_within, input_signal, on_clock, window_value, cell_signal, signal_of}
use Rattle.pulse_sim.specs.Laws.{SignalsIgnoreLaterPulses}
use Rattle.pulse_sim.proofs.PairedWires.{Paired, none, more, paired-append, paired-carried}

-- signals that agree at the first ticks
abbrev pub Agree : ℕ → Signal → Signal → Type 0
Agree ticks a b = (tick : ℕ) → tick < ticks → a tick ≡ b tick

pub within-agrees : (ticks : ℕ) (a b : Signal) → Agree ticks a b → (tick window : ℕ) → tick ≤ ticks → pulsed_within a tick window ≡ pulsed_within b tick window
within-agrees ticks a b h zero window early = refl
within-agrees ticks a b h (suc tick) zero early = refl
within-agrees ticks a b h (suc tick) (suc window) early = ap₂ (λ p q. p || q) (h tick (omega arith)) (within-agrees ticks a b h tick window (omega arith))

on_clock-agrees : (here : Bool) (a b : Signal) (tick : ℕ) → a tick ≡ b tick → on_clock here a tick ≡ on_clock here b tick
on_clock-agrees true a b tick h = h
on_clock-agrees false a b tick h = refl

module _ (ticks n : ℕ) where
  pins-agree : {xs ys : Wires Signal} → Paired (Agree ticks) xs ys → (tick : ℕ) → tick < ticks → (pins : List ℕ) → map (λ pin. pulsed_within pin tick n) (map (carried silence xs) pins) ≡ map (λ pin. pulsed_within pin tick n) (map (carried silence ys) pins)
  pins-agree p tick early [] = refl
  pins-agree {xs} {ys} p tick early (pin ∷ pins) =
      let one = within-agrees ticks (carried silence xs pin) (carried silence ys pin) (paired-carried silence silence pin (λ t e. refl) p) tick n (omega arith) in
      ap₂ (λ v vs. v ∷ vs) one (pins-agree p tick early pins)

  element-agrees : {xs ys : Wires Signal} → Paired (Agree ticks) xs ys → (element : Element) → Paired (Agree ticks) (element_wires silence (cell_signal n) xs element) (element_wires silence (cell_signal n) ys element)
  element-agrees {xs} {ys} p (Clocked cell stage pins out) =
      more out _ _ [] [] (λ tick early. on_clock-agrees (tick % n == stage % n) (window_value n cell (map (carried silence xs) pins)) (window_value n cell (map (carried silence ys) pins)) tick (ap (cell_value cell) (pins-agree p tick early pins))) none
  element-agrees {xs} {ys} p (Split from left right) =
      let source : Agree ticks (carried silence xs from) (carried silence ys from) = paired-carried silence silence from (λ t e. refl) p in
      more left _ _ _ _ source (more right _ _ [] [] source none)

  elements-agree : (elements : List Element) (xs ys : Wires Signal) → Paired (Agree ticks) xs ys → Paired (Agree ticks) (after_elements silence (cell_signal n) xs elements) (after_elements silence (cell_signal n) ys elements)
  elements-agree [] xs ys p = p
  elements-agree (element ∷ elements) xs ys p = elements-agree elements _ _ (paired-append p (element-agrees p element))

  inputs-agree : (pulses others : List (List Bool)) → ((input : ℕ) → Agree ticks (input_signal pulses input) (input_signal others input)) → (place : ℕ) (inputs : List (Option ℕ)) → Paired (Agree ticks) (input_entries (input_signal pulses) place inputs) (input_entries (input_signal others) place inputs)
  inputs-agree pulses others h place [] = none
  inputs-agree pulses others h place (None ∷ inputs) = inputs-agree pulses others h (place + 1) inputs
  inputs-agree pulses others h place (Some wire ∷ inputs) = more wire _ _ _ _ (h place) (inputs-agree pulses others h (place + 1) inputs)

-- Where the inputs agree at the first ticks, so do all wires.
pub signals-agree : (net : PulseNet) (pulses others : List (List Bool)) (ticks : ℕ) → ((input : ℕ) → Agree ticks (input_signal pulses input) (input_signal others input)) → (wire : ℕ) → Agree ticks (signal_of net pulses wire) (signal_of net others wire)
signals-agree net pulses others ticks h wire =
    paired-carried silence silence wire (λ t e. refl) (elements-agree ticks net.phases net.elements _ _ (inputs-agree ticks net.phases pulses others h 0 net.inputs))

pub signals_ignore_later_pulses : SignalsIgnoreLaterPulses
signals_ignore_later_pulses net pulses later wire tick early =
    signals-agree net pulses (pulses ++ later) (length pulses) (λ input t e. sym (ap (λ row. get_or row input false) (get_or-append pulses later [] t e))) wire tick early
