-- What a netlist is made of, before any rule on its wires.
use Rattle.std.specs.Prelude.{◌≡◌, ◌≤◌, ℕ, Bool, true, false, length, All, ⊤, slice_index_or}
use Rattle.cell_lib.specs.Cell.{arity_of}
use Rattle.flow_net.specs.TheConstants.{MAX_PHASES}
use Rattle.pulse_net.specs.declared.net.Element.{Element}
use Rattle.pulse_net.specs.declared.net.Element.TheVariants.{Clocked, Split}
use Rattle.pulse_net.specs.declared.net.Outlet.{Outlet}
use Rattle.pulse_net.specs.declared.net.Outlet.TheVariants.{Zero}
use Rattle.pulse_net.specs.declared.net.PulseNet.{PulseNet}

-- a clocked element has as many pins as its cell
abbrev pub HasItsPins : Element → Type 0
HasItsPins (Clocked cell stage pins out) = length pins ≡ arity_of cell
HasItsPins (Split from left right) = ⊤

-- whether an element is a splitter
abbrev pub is_splitter : Element → Bool
is_splitter (Clocked cell stage pins out) = false
is_splitter (Split from left right) = true

-- a netlist is formed: 1 to 16 phases, a latency of at least 1, each cell has its pins, and each input and output has its name
pub record IsFormed (net : PulseNet) : Type 0 where
  pub some_phases : 1 ≤ net.phases
  pub few_phases : net.phases ≤ MAX_PHASES
  pub latency : 1 ≤ net.latency
  pub pins : All HasItsPins net.elements
  pub inputs : length net.inputs ≡ length net.names.inputs
  pub outputs : length net.outputs ≡ length net.names.outputs

-- the output at a place, or the constant 0 past the last
abbrev pub outlet_at : PulseNet → ℕ → Outlet
outlet_at net output = slice_index_or net.outputs output Zero
