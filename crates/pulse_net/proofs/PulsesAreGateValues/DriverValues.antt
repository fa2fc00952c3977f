-- Stages, values and drivers of the same wires: each driver is there, and its value is the wire's, as gates are added.
use Rattle.std.proofs.Common.{◌≡◌, ℕ, Bool, false, List, [], ◌∷◌, ◌++◌, length, map, refl, sym, ap, ◌∙◌, arith}
use Rattle.std.specs.List.{AllByRecursion}
use Rattle.std.proofs.lemmas.List.{length_push}
use Rattle.gate_net.specs.declared.row.Driver.{Driver}
use Rattle.gate_net.specs.declared.row.Driver.TheVariants.{Input, Gate}
use Rattle.gate_net.specs.declared.row.GateRow.{GateRow}
use Rattle.gate_net.specs.Net.{IsThere}
use Rattle.gate_net.specs.Values.{driver_value, gate_value, values_by}
use Rattle.gate_net.proofs.CallerLemmas.{IsThere-more, driver-more, value-new}
use Rattle.pulse_net.specs.Wires.{Wires, carried}
use Rattle.pulse_net.specs.Wired.{ArriveInTime}
use Rattle.pulse_net.specs.Unfolding.{driver_of}
use Rattle.pulse_net.proofs.RelatedWires.{Related, related-weaker, related-found}

-- a wire's driver is an input or one of the gates so far, and has the wire's value
pub record IsDriven (inputs : ℕ) (bits : List Bool) (gates : List GateRow) (value : Bool) (driver : Driver) : Type 0 where
  pub there : IsThere inputs (length gates) driver
  pub worth : value ≡ driver_value bits (values_by bits gates) driver

-- stages, values and drivers of the same wires, in one order
abbrev pub Agree : ℕ → List Bool → List GateRow → Wires ℕ → Wires Bool → Wires Driver → Type 0
Agree inputs bits gates = Related (λ stage value driver. IsDriven inputs bits gates value driver)

module _ (inputs : ℕ) (bits : List Bool) where
  -- one gate more leaves the drivers with their values, and is one itself
  driven-more : (gates : List GateRow) (row : GateRow) (value : Bool) (driver : Driver) → IsDriven inputs bits gates value driver → IsDriven inputs bits (gates ++ row ∷ []) value driver
  driven-more gates row value driver h = record {
    there = IsThere-more inputs (length gates) (length (gates ++ row ∷ [])) (omega (arith, length_push gates row)) driver h.there;
    worth = h.worth ∙ sym (driver-more bits inputs gates (row ∷ []) driver h.there);
  }

  pub driven-new : (gates : List GateRow) (row : GateRow) → IsDriven inputs bits (gates ++ row ∷ []) (gate_value bits (values_by bits gates) row) (Gate (length gates))
  driven-new gates row = record { there = omega (arith, length_push gates row); worth = sym (value-new bits gates row (length gates) refl) }

  pub agree-more : (gates : List GateRow) (row : GateRow) (a : Wires ℕ) (b : Wires Bool) (d : Wires Driver) → Agree inputs bits gates a b d → Agree inputs bits (gates ++ row ∷ []) a b d
  agree-more gates row a b d p = related-weaker (λ stage value driver h. driven-more gates row value driver h) p

  -- the drivers of pins that are made are there,
  pub pins-there : (gates : List GateRow) (a : Wires ℕ) (b : Wires Bool) (d : Wires Driver) → Agree inputs bits gates a b d → (n user : ℕ) (pins : List ℕ) → ArriveInTime n a user pins → AllByRecursion (IsThere inputs (length gates)) (map (driver_of d) pins)
  pins-there gates a b d p n user [] h = tt
  pins-there gates a b d p n user (pin ∷ pins) h = ((related-found false (Input 0) pin h.0.0 p h.0.1).there, pins-there gates a b d p n user pins h.1)

  -- and have the pins' values
  pub pins-worth : (gates : List GateRow) (a : Wires ℕ) (b : Wires Bool) (d : Wires Driver) → Agree inputs bits gates a b d → (n user : ℕ) (pins : List ℕ) → ArriveInTime n a user pins → map (carried false b) pins ≡ map (driver_value bits (values_by bits gates)) (map (driver_of d) pins)
  pins-worth gates a b d p n user [] h = refl
  pins-worth gates a b d p n user (pin ∷ pins) h =
      ap (λ v. v ∷ map (carried false b) pins) (related-found false (Input 0) pin h.0.0 p h.0.1).worth
      ∙ ap (λ vs. driver_value bits (values_by bits gates) (driver_of d pin) ∷ vs) (pins-worth gates a b d p n user pins h.1)
