-- What outputs show by roots is what their wires do; and where no input of the row pulses, no used input does.
use Rattle.std.proofs.Common.{◌≡◌, ℕ, zero, suc, ◌<◌, Bool, false, List, [], ◌∷◌, map, get_or, take, refl, sym, ap, ap₂, ◌∙◌}
use Rattle.std.specs.Prelude.{Option}
use Rattle.std.proofs.lemmas.List.{get_or-take}
use Rattle.pulse_sim.specs.declared.site.Tap.{Tap}
use Rattle.pulse_sim.specs.declared.site.Tap.TheVariants.{Zero, One, At}
use Rattle.pulse_sim.specs.declared.root.Root.{Root}
use Rattle.pulse_sim.specs.Roots.{root_pulse, shown_by, shown_pulse}
use Rattle.pulse_sim.specs.Simulators.{input_pulses, tap_pulse}
use Rattle.pulse_sim.proofs.TurnIsRight.{pulse_at-root}

module _ (tick : ℕ) (pulses : List Bool) (roots : List (Option Root)) where
  one-shown : (tap : Tap) → shown_pulse tick pulses (shown_by roots tap) ≡ tap_pulse tick (map (root_pulse tick pulses) roots) tap
  one-shown Zero = refl
  one-shown One = refl
  one-shown (At place) = sym (pulse_at-root tick pulses roots place)

  pub all-shown : (taps : List Tap) → map (shown_pulse tick pulses) (map (shown_by roots) taps) ≡ map (tap_pulse tick (map (root_pulse tick pulses) roots)) taps
  all-shown [] = refl
  all-shown (tap ∷ taps) = ap₂ (λ p (ps : List Bool). p ∷ ps) (one-shown tap) (all-shown taps)

module _ (row : List Bool) (none : (input : ℕ) → get_or row input false ≡ false) where
  none-used : (inputs : List ℕ) (place : ℕ) → get_or (input_pulses row inputs) place false ≡ false
  none-used [] place = refl
  none-used (input ∷ inputs) zero = none input
  none-used (input ∷ inputs) (suc place) = none-used inputs place

  pub none-written : (count : ℕ) (pulses : List Bool) (inputs : List ℕ) → take count pulses ≡ input_pulses row inputs → (place : ℕ) → place < count → get_or pulses place false ≡ false
  none-written count pulses inputs written place below = sym (get_or-take count pulses place false below) ∙ ap (λ (p : List Bool). get_or p place false) written ∙ none-used inputs place
