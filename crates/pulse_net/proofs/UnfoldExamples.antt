-- Small netlists by hand, unfolded by evaluation.
use Rattle.std.specs.Prelude.{◌≡◌, ℕ, List, [], ◌∷◌, map, Some, IsOk, refl}
use Rattle.cell_lib.specs.declared.cell.Cell.{Cell}
use Rattle.cell_lib.specs.declared.cell.Cell.TheVariants.{Dro, Not, And}
use Rattle.gate_net.specs.declared.row.Driver.{Driver}
use Rattle.gate_net.specs.declared.row.Driver.TheVariants.{Input, Gate}
use Rattle.gate_net.specs.declared.row.End.{End}
use Rattle.gate_net.specs.declared.row.End.TheVariants as ends
use Rattle.gate_net.specs.declared.row.GateRow.{GateRow}
use Rattle.pulse_net.specs.declared.net.Element.{Element}
use Rattle.pulse_net.specs.declared.net.Element.TheVariants.{Clocked, Split}
use Rattle.pulse_net.specs.declared.net.Outlet.{Outlet}
use Rattle.pulse_net.specs.declared.net.Outlet.TheVariants.{Zero, Wire}
use Rattle.pulse_net.specs.declared.net.PulseNet.{PulseNet}
use Rattle.pulse_net.specs.declared.unfolding.Unfolded.{Unfolded}
use Rattle.flow_net.specs.Epochs.{dro_count}
use Rattle.pulse_net.specs.Validity.{wiring_of}
use Rattle.pulse_net.specs.Unfolding.{unfolding_of, unfolded, gate_wires}
use Rattle.pulse_net.specs.Dros.{dros}
use Rattle.pulse_net.specs.Depths.{depths_of, dros_behind}
use Rattle.pulse_net.specs.Balance.{unfolded_network}

-- a model `m` with inputs `a` and `b` on wires 0 and 1, and an output `f`
abbrev netlist : ℕ → ℕ → List Element → Outlet → PulseNet
netlist n latency elements output = record {
  names = record { model = 109 ∷ []; inputs = (97 ∷ []) ∷ ((98 ∷ []) ∷ []); outputs = (102 ∷ []) ∷ [] };
  phases = n;
  latency = latency;
  inputs = Some 0 ∷ (Some 1 ∷ []);
  elements = elements;
  outputs = output ∷ [];
}

-- what such a netlist unfolds to
abbrev gates_of : List GateRow → End → List ℕ → List ℕ → ℕ → ℕ → Unfolded
gates_of gates end phases epochs latency dros = record {
  gates = record { inputs = 2; gates = gates; outputs = end ∷ [] };
  phases = phases;
  epochs = record { gates = epochs; sink = latency };
  dros = dros;
}

abbrev gate : Cell → List Driver → GateRow
gate cell pins = record { cell = cell; pins = pins }

-- a and not b, with one phase: a waits in a DRO while b is inverted
abbrev one_phase : PulseNet
one_phase = netlist 1 3 (Clocked Dro 1 (0 ∷ []) 2 ∷ (Clocked Not 1 (1 ∷ []) 3 ∷ (Clocked And 2 (2 ∷ (3 ∷ [])) 4 ∷ []))) (Wire 4)

one_phase-unfolds : unfolded one_phase ≡ gates_of (gate Not (Input 1 ∷ []) ∷ (gate And (Input 0 ∷ (Gate 0 ∷ [])) ∷ [])) (ends.From (Gate 1)) (0 ∷ (0 ∷ [])) (1 ∷ (2 ∷ [])) 3 1
one_phase-unfolds = refl

one_phase-wires : gate_wires one_phase ≡ 3 ∷ (4 ∷ [])
one_phase-wires = refl

-- a is one deep behind its DRO, and gates begin anew
one_phase-depths : depths_of one_phase ≡ (0, 0) ∷ ((1, 0) ∷ ((2, 1) ∷ ((3, 0) ∷ ((4, 0) ∷ []))))
one_phase-depths = refl

-- a passes a DRO, and on one side of a splitter a second one
abbrev two_deep : PulseNet
two_deep = netlist 1 3 (Clocked Dro 1 (0 ∷ []) 2 ∷ (Split 2 3 4 ∷ (Clocked Dro 2 (3 ∷ []) 5 ∷ (Clocked And 2 (1 ∷ (4 ∷ [])) 6 ∷ [])))) (Wire 6)

-- both sides of a splitter are as deep as its source
split-depths : depths_of two_deep ≡ (0, 0) ∷ ((1, 0) ∷ ((2, 1) ∷ ((3, 1) ∷ ((4, 1) ∷ ((5, 2) ∷ ((6, 0) ∷ []))))))
split-depths = refl

-- there are two DROs, and a is the driver of both
two_deep-counted : dros two_deep.elements ≡ 2
two_deep-counted = refl

two_deep-dros : map (dros_behind (unfolding_of two_deep).dros) (Input 0 ∷ (Input 1 ∷ (Gate 0 ∷ []))) ≡ 2 ∷ (0 ∷ (0 ∷ []))
two_deep-dros = refl

-- four phases: stage 5 is phase 1 of epoch 1, by way of a DRO
by_way_of_dro-unfolds : unfolded (netlist 4 2 (Clocked Dro 4 (0 ∷ []) 2 ∷ (Clocked Not 5 (2 ∷ []) 3 ∷ [])) (Wire 3)) ≡ gates_of (gate Not (Input 0 ∷ []) ∷ []) (ends.From (Gate 0)) (1 ∷ []) (1 ∷ []) 2 1
by_way_of_dro-unfolds = refl

-- both sides of a splitter have its driver
split-unfolds : unfolded (netlist 1 2 (Split 1 2 3 ∷ (Clocked And 1 (2 ∷ (3 ∷ [])) 4 ∷ [])) Zero) ≡ gates_of (gate And (Input 1 ∷ (Input 1 ∷ [])) ∷ []) ends.Zero (0 ∷ []) (1 ∷ []) 2 0
split-unfolds = refl

-- a pulses into a gate by two DROs side by side, where a shared one would do, and b by two in a row: four DROs for epochs that
-- cost three
abbrev side_by_side : PulseNet
side_by_side = netlist 1 4 (Split 0 2 3 ∷ (Clocked Dro 1 (2 ∷ []) 4 ∷ (Clocked Dro 1 (3 ∷ []) 5 ∷ (Clocked And 2 (4 ∷ (5 ∷ [])) 6 ∷ (Clocked Dro 1 (1 ∷ []) 7 ∷ (Clocked Dro 2 (7 ∷ []) 8 ∷ (Clocked And 3 (6 ∷ (8 ∷ [])) 9 ∷ []))))))) (Wire 9)

side_by_side-unbroken : IsOk (wiring_of side_by_side)
side_by_side-unbroken = refl

side_by_side-dros : (unfolded side_by_side).dros ≡ 4
side_by_side-dros = refl

side_by_side-count : dro_count (unfolded_network (unfolded side_by_side)) (unfolded side_by_side).epochs ≡ 3
side_by_side-count = refl
