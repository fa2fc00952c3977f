-- A majority of three inputs by hand, with one phase and with three: valid, read over all rows, and unfolded, by evaluation.
use Rattle.std.specs.Prelude.{◌≡◌, ℕ, zero, suc, Bool, true, false, cond, List, [], ◌∷◌, ◌++◌, map, Some, refl}
use Rattle.std.proofs.Common.{lit≤}
use Rattle.std.proofs.lemmas.List.Elements.{All-from_recursion}
use Rattle.cell_lib.specs.declared.cell.Cell.TheVariants.{Maj}
use Rattle.gate_net.specs.declared.row.Driver.TheVariants.{Input, Gate}
use Rattle.gate_net.specs.declared.row.End.TheVariants.{From}
use Rattle.pulse_net.specs.declared.net.Element.TheVariants.{Clocked}
use Rattle.pulse_net.specs.declared.net.Outlet.TheVariants.{Wire}
use Rattle.pulse_net.specs.declared.net.PulseNet.{PulseNet}
use Rattle.pulse_net.specs.declared.unfolding.Unfolded.{Unfolded}
use Rattle.pulse_net.specs.Formed.{HasItsPins}
use Rattle.pulse_net.specs.Validity.{IsValid}
use Rattle.pulse_net.specs.Pulses.{Signal, value_read, signal_of, spread}
use Rattle.pulse_net.specs.RowValues.{output_value}
use Rattle.pulse_net.specs.Unfolding.{unfolded, gate_wires}

-- a model `m` with inputs `a`, `b` and `c` on wires 0, 1 and 2, whose output `f` is their majority, at stage 1
abbrev majority : ℕ → ℕ → PulseNet
majority n latency = record {
  names = record { model = 109 ∷ []; inputs = (97 ∷ []) ∷ ((98 ∷ []) ∷ ((99 ∷ []) ∷ [])); outputs = (102 ∷ []) ∷ [] };
  phases = n;
  latency = latency;
  inputs = Some 0 ∷ (Some 1 ∷ (Some 2 ∷ []));
  elements = Clocked Maj 1 (0 ∷ (1 ∷ (2 ∷ []))) 3 ∷ [];
  outputs = Wire 3 ∷ [];
}

-- the one gate of such a netlist
abbrev one_gate : ℕ → ℕ → ℕ → Unfolded
one_gate phase epoch latency = record {
  gates = record { inputs = 3; gates = record { cell = Maj; pins = Input 0 ∷ (Input 1 ∷ (Input 2 ∷ [])) } ∷ []; outputs = From (Gate 0) ∷ [] };
  phases = phase ∷ [];
  epochs = record { gates = epoch ∷ []; sink = latency };
  dros = 0;
}

-- rows 0 to 7: 000, 001, 010, 011, 100, 101, 110, 111
abbrev eight_rows : List (List Bool)
eight_rows =
    (false ∷ (false ∷ (false ∷ [])))
    ∷ ((false ∷ (false ∷ (true ∷ [])))
    ∷ ((false ∷ (true ∷ (false ∷ [])))
    ∷ ((false ∷ (true ∷ (true ∷ [])))
    ∷ ((true ∷ (false ∷ (false ∷ [])))
    ∷ ((true ∷ (false ∷ (true ∷ [])))
    ∷ ((true ∷ (true ∷ (false ∷ []))) ∷ ((true ∷ (true ∷ (true ∷ []))) ∷ [])))))))

-- of these the rows 3, 5, 6 and 7 have two that are true, or three
abbrev majorities : List Bool
majorities = false ∷ (false ∷ (false ∷ (true ∷ (false ∷ (true ∷ (true ∷ (true ∷ [])))))))

abbrev reads : PulseNet → List Bool
reads net = map (value_read net eight_rows 0) (0 ∷ (1 ∷ (2 ∷ (3 ∷ (4 ∷ (5 ∷ (6 ∷ (7 ∷ []))))))))

-- the ticks before this one at which a signal pulses
abbrev pulses_before : ℕ → Signal → List ℕ
pulses_before zero signal = []
pulses_before (suc tick) signal = pulses_before tick signal ++ cond (signal tick) (tick ∷ []) []

-- without ticks
majority-values : map (output_value (majority 1 2) 0) eight_rows ≡ majorities
majority-values = refl

-- With one phase row c comes at tick c, the cell has its clock a tick later, and the output is read at the next.
one_phase-is_valid : IsValid (majority 1 2)
one_phase-is_valid = record {
  formed = record { some_phases = lit≤ tt; few_phases = lit≤ tt; latency = lit≤ tt; pins = All-from_recursion HasItsPins (majority 1 2).elements (refl, tt); inputs = refl; outputs = refl };
  unbroken = refl;
}

one_phase-reads : reads (majority 1 2) ≡ majorities
one_phase-reads = refl

one_phase-pulses : pulses_before 12 (signal_of (majority 1 2) (spread 1 eight_rows) 3) ≡ 4 ∷ (6 ∷ (7 ∷ (8 ∷ [])))
one_phase-pulses = refl

one_phase-unfolds : unfolded (majority 1 2) ≡ one_gate 0 1 2
one_phase-unfolds = refl

-- With three phases row c comes at tick 3 * c, the cell has its clock a tick later, and the output is read 2 ticks behind.
three_phases-is_valid : IsValid (majority 3 1)
three_phases-is_valid = record {
  formed = record { some_phases = lit≤ tt; few_phases = lit≤ tt; latency = lit≤ tt; pins = All-from_recursion HasItsPins (majority 3 1).elements (refl, tt); inputs = refl; outputs = refl };
  unbroken = refl;
}

three_phases-reads : reads (majority 3 1) ≡ majorities
three_phases-reads = refl

three_phases-pulses : pulses_before 30 (signal_of (majority 3 1) (spread 3 eight_rows) 3) ≡ 10 ∷ (16 ∷ (19 ∷ (22 ∷ [])))
three_phases-pulses = refl

three_phases-unfolds : unfolded (majority 3 1) ≡ one_gate 1 0 1
three_phases-unfolds = refl

majority-wires : gate_wires (majority 3 1) ≡ 3 ∷ []
majority-wires = refl
