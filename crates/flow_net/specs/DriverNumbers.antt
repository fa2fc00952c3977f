-- What the numbers of drivers are: each driver has one of its own, none is left out, and a pin's number tells where it
-- starts.
use Rattle.std.specs.Prelude.{◌≡◌, ◌<◌, ℕ, List, length, All, Any, IsTrue}
use Rattle.gate_net.specs.declared.row.Driver.{Driver}
use Rattle.gate_net.specs.declared.row.Driver.TheVariants.{Input, Gate}
use Rattle.gate_net.specs.declared.net.GateNet.{GateNet}
use Rattle.gate_net.specs.Net.{IsGateNet, EachGateIsUsed}
use Rattle.flow_net.specs.Uses.{uses_of, is_used, driver_number}
use Rattle.flow_net.specs.Network.{vertex_of, network_of}

-- The drivers that have numbers: the used inputs, and the gates.
abbrev pub IsNumbered : GateNet → Driver → Type 0
IsNumbered net (Input i) = (i < net.inputs) × IsTrue (is_used i (uses_of net))
IsNumbered net (Gate k) = k < length net.gates

-- Drivers' numbers are below their count, no two drivers share one, and each number below the count is a driver's. A pin's
-- number is below the count too; it starts at the vertex of the driver with its number. Where each gate is used, each number
-- has a pin.
pub record HasNumbers (net : GateNet) (phases : List ℕ) : Type 0 where
  pub below : (driver : Driver) → IsNumbered net driver → driver_number net driver < (network_of net phases).drivers
  pub distinct : (a b : Driver) → IsNumbered net a → IsNumbered net b → driver_number net a ≡ driver_number net b → a ≡ b
  pub all : (number : ℕ) → number < (network_of net phases).drivers → (driver : Driver) × IsNumbered net driver × (driver_number net driver ≡ number)
  pub pins : All (λ pin. pin.driver < (network_of net phases).drivers) (network_of net phases).pins
  pub starts : (driver : Driver) → IsNumbered net driver → All (λ pin. pin.driver ≡ driver_number net driver → pin.from ≡ vertex_of driver) (network_of net phases).pins
  pub used : EachGateIsUsed net → (number : ℕ) → number < (network_of net phases).drivers → Any (λ pin. pin.driver ≡ number) (network_of net phases).pins

-- Drivers are numbered from 0 on, used inputs and then gates, in the network of every well-formed netlist.
abbrev pub DriversAreNumbered : Type 0
DriversAreNumbered = (net : GateNet) (phases : List ℕ) → IsGateNet net → HasNumbers net phases
