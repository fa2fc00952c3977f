-- The taps of a driver: itself and the DROs of its chain, each with the pins that take from it.
use Rattle.std.specs.Prelude.{◌<◌, ◌^◌, ◌*◌, ◌+◌, ◌-◌, ◌&&◌, ◌==◌, ℕ, zero, suc, Bool, true, false, cond, max, List, [], ◌∷◌, length, slice_index, slice_index_or}
use Rattle.gate_net.specs.declared.row.Driver.{Driver}
use Rattle.gate_net.specs.declared.row.Driver.TheVariants.{Input, Gate}
use Rattle.gate_net.specs.Rows.{same_driver}
use Rattle.gate_net.specs.Net.{pin_drivers, IsGateNet}
use Rattle.gate_net.specs.Entries.{entry_of}
use Rattle.dro_chains.specs.declared.chain.Chained.{Chained}

-- a pin in front of others, if it is one that is sought
abbrev pub with_pin : Bool → ℕ → List ℕ → List ℕ
with_pin true pin pins = pin ∷ pins
with_pin false pin pins = pins

-- Of these pins, the first of which has the number `pin`: those with this driver and this need.
abbrev pub takers : List ℕ → Driver → ℕ → ℕ → List Driver → List ℕ
takers needs driver need pin [] = []
takers needs driver need pin (other ∷ drivers) =
    with_pin (same_driver driver other && (slice_index needs pin == need)) pin (takers needs driver need (pin + 1) drivers)

-- how many taps a driver has for these pins: 1 more than their largest need, and none without a pin
abbrev pub tap_count : List ℕ → Driver → ℕ → List Driver → ℕ
tap_count needs driver pin [] = 0
tap_count needs driver pin (other ∷ drivers) =
    max (cond (same_driver driver other) (slice_index needs pin + 1) 0) (tap_count needs driver (pin + 1) drivers)

-- the pins of taps from a need on, `more` of them
abbrev pub taps_from : List ℕ → List Driver → Driver → ℕ → ℕ → List (List ℕ)
taps_from needs drivers driver need zero = []
taps_from needs drivers driver need (suc more) = takers needs driver need 0 drivers ∷ taps_from needs drivers driver (need + 1) more

-- The taps of a driver, in the order of the chain: the pins of need 0, which take from the driver itself, then those that
-- take from DRO 1, and so on. The chain is as long as the largest need.
abbrev pub taps_at : List ℕ → List Driver → Driver → List (List ℕ)
taps_at needs drivers driver = taps_from needs drivers driver 0 (tap_count needs driver 0 drivers)

abbrev pub taps_of : Chained → Driver → List (List ℕ)
taps_of chained driver = taps_at chained.needs (pin_drivers chained.gates) driver

-- the stage of what each pin takes from, a driver or a DRO of its chain, fits 32 bits
abbrev pub StagesFit : Chained → Type 0
StagesFit chained =
    (pin : ℕ) (d : Driver) → pin < length (pin_drivers chained.gates)
    → entry_of chained.stages (slice_index_or (pin_drivers chained.gates) pin d) + chained.n * slice_index chained.needs pin < 2 ^ 32

-- how many DROs the chains of inputs have, from one on and `more` of them: one for each tap behind the first
abbrev pub input_dros : Chained → ℕ → ℕ → ℕ
input_dros chained input zero = 0
input_dros chained input (suc more) = length (taps_of chained (Input input)) - 1 + input_dros chained (input + 1) more

-- the same of gates
abbrev pub gate_dros : Chained → ℕ → ℕ → ℕ
gate_dros chained gate zero = 0
gate_dros chained gate (suc more) = length (taps_of chained (Gate gate)) - 1 + gate_dros chained (gate + 1) more

-- how many DROs the chains of all drivers have
abbrev pub chain_dros : Chained → ℕ
chain_dros chained = input_dros chained 0 chained.gates.inputs + gate_dros chained 0 (length chained.gates.gates)

-- The numbers of wires fit 32 bits: each DRO and each gate makes one wire, and used inputs and splitters make two at most
-- for each pin. The last 2 is room for one more target, since a spread asks for two wires a target.
abbrev pub FewWires : Chained → Type 0
FewWires chained = chain_dros chained + 2 * length (pin_drivers chained.gates) + length chained.gates.gates + 2 < 2 ^ 32

-- which gates with shared chains can be laid out: well formed, with fewer than 2 ^ 31 pins, stages that fit and few wires
pub record CanSplit (chained : Chained) : Type 0 where
  pub formed : IsGateNet chained.gates
  pub few_pins : length (pin_drivers chained.gates) < 2 ^ 31
  pub stages : StagesFit chained
  pub few_wires : FewWires chained
