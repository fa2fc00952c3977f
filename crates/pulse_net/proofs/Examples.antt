-- Small netlists by hand, each a term, with their validity and their pulses by evaluation: a false definition fails here.
use Rattle.std.specs.Prelude.{◌≡◌, ℕ, Bool, true, false, List, [], ◌∷◌, map, Some, None, Result, Err, pos, refl}
use Rattle.std.proofs.Common.{lit≤}
use Rattle.std.proofs.lemmas.List.Elements.{All-from_recursion}
use Rattle.cell_lib.specs.declared.cell.Cell.TheVariants.{Dro, Not, And}
use Rattle.pulse_net.specs.declared.net.Names.{Names}
use Rattle.pulse_net.specs.declared.net.Element.{Element}
use Rattle.pulse_net.specs.declared.net.Element.TheVariants.{Clocked, Split}
use Rattle.pulse_net.specs.declared.net.Outlet.{Outlet}
use Rattle.pulse_net.specs.declared.net.Outlet.TheVariants.{One, Wire}
use Rattle.pulse_net.specs.declared.net.PulseNet.{PulseNet}
use Rattle.pulse_net.specs.declared.fault.Place.{Place}
use Rattle.pulse_net.specs.declared.fault.Place.TheVariants.{Input, Element as AtElement, Output, Latency, Close}
use Rattle.pulse_net.specs.declared.fault.Wrong.{Wrong}
use Rattle.pulse_net.specs.declared.fault.Wrong.TheVariants.{Unmade, MadeTwice, UsedTwice, Gap, Unused, NoWires}
use Rattle.pulse_net.specs.declared.fault.Invalid.{Invalid}
use Rattle.pulse_net.specs.Formed.{HasItsPins}
use Rattle.pulse_net.specs.Validity.{Wiring, wiring_of, IsValid}
use Rattle.pulse_net.specs.Pulses.{value_read, signal_of, spread}
use Rattle.pulse_net.specs.RowValues.{output_value}

-- a model `m` with inputs `a` and `b`, and an output `f`
abbrev two_inputs : Names
two_inputs = record { model = 109 ∷ []; inputs = (97 ∷ []) ∷ ((98 ∷ []) ∷ []); outputs = (102 ∷ []) ∷ [] }

-- a model `m` with an input `a` and an output `f`
abbrev one_input : Names
one_input = record { model = 109 ∷ []; inputs = (97 ∷ []) ∷ []; outputs = (102 ∷ []) ∷ [] }

-- a netlist with inputs a and b on wires 0 and 1
abbrev on_two : ℕ → ℕ → List Element → Outlet → PulseNet
on_two n latency elements output = record { names = two_inputs; phases = n; latency = latency; inputs = Some 0 ∷ (Some 1 ∷ []); elements = elements; outputs = output ∷ [] }

-- a netlist with input a on wire 0
abbrev on_one : ℕ → ℕ → List Element → Outlet → PulseNet
on_one n latency elements output = record { names = one_input; phases = n; latency = latency; inputs = Some 0 ∷ []; elements = elements; outputs = output ∷ [] }

-- the values read at the output for these rows
abbrev reads : PulseNet → List (List Bool) → List ℕ → List Bool
reads net rows places = map (value_read net rows 0) places

-- the values of the output over these rows, without pulses
abbrev values : PulseNet → List (List Bool) → List Bool
values net rows = map (output_value net 0) rows

-- the rows 00, 10, 01, 11
abbrev four_rows : List (List Bool)
four_rows = (false ∷ (false ∷ [])) ∷ ((true ∷ (false ∷ [])) ∷ ((false ∷ (true ∷ [])) ∷ ((true ∷ (true ∷ [])) ∷ [])))

-- the rows 1, 0, 1
abbrev three_rows : List (List Bool)
three_rows = (true ∷ []) ∷ ((false ∷ []) ∷ ((true ∷ []) ∷ []))

-- this rule is broken at this place
abbrev broken : Place → Wrong → Result Wiring Invalid
broken place cause = Err (record { place = place; cause = cause })

-- a and not b, with one phase: a waits in a DRO while b is inverted
abbrev one_phase : PulseNet
one_phase = on_two 1 3 (Clocked Dro 1 (0 ∷ []) 2 ∷ (Clocked Not 1 (1 ∷ []) 3 ∷ (Clocked And 2 (2 ∷ (3 ∷ [])) 4 ∷ []))) (Wire 4)

one_phase-is_valid : IsValid one_phase
one_phase-is_valid = record {
  formed = record { some_phases = lit≤ tt; few_phases = lit≤ tt; latency = lit≤ tt; pins = All-from_recursion HasItsPins one_phase.elements (refl, (refl, (refl, tt))); inputs = refl; outputs = refl };
  unbroken = refl;
}

one_phase-reads : reads one_phase four_rows (0 ∷ (1 ∷ (2 ∷ (3 ∷ [])))) ≡ false ∷ (true ∷ (false ∷ (false ∷ [])))
one_phase-reads = refl

one_phase-values : values one_phase four_rows ≡ false ∷ (true ∷ (false ∷ (false ∷ [])))
one_phase-values = refl

-- the same with two phases: a needs no DRO
abbrev two_phases : PulseNet
two_phases = on_two 2 2 (Clocked Not 1 (1 ∷ []) 2 ∷ (Clocked And 2 (0 ∷ (2 ∷ [])) 3 ∷ [])) (Wire 3)

two_phases-is_valid : IsValid two_phases
two_phases-is_valid = record {
  formed = record { some_phases = lit≤ tt; few_phases = lit≤ tt; latency = lit≤ tt; pins = All-from_recursion HasItsPins two_phases.elements (refl, (refl, tt)); inputs = refl; outputs = refl };
  unbroken = refl;
}

two_phases-reads : reads two_phases four_rows (0 ∷ (1 ∷ (2 ∷ (3 ∷ [])))) ≡ false ∷ (true ∷ (false ∷ (false ∷ [])))
two_phases-reads = refl

-- an inverter one epoch behind its input: the gap is four, the number of phases
abbrev one_epoch_behind : PulseNet
one_epoch_behind = on_one 4 2 (Clocked Not 4 (0 ∷ []) 1 ∷ []) (Wire 1)

one_epoch_behind-is_valid : IsValid one_epoch_behind
one_epoch_behind-is_valid = record {
  formed = record { some_phases = lit≤ tt; few_phases = lit≤ tt; latency = lit≤ tt; pins = All-from_recursion HasItsPins one_epoch_behind.elements (refl, tt); inputs = refl; outputs = refl };
  unbroken = refl;
}

one_epoch_behind-reads : reads one_epoch_behind three_rows (0 ∷ (1 ∷ (2 ∷ []))) ≡ false ∷ (true ∷ (false ∷ []))
one_epoch_behind-reads = refl

-- before the first row arrives it pulses already, and nobody reads that
one_epoch_behind-warms_up : signal_of one_epoch_behind (spread 4 three_rows) 1 0 ≡ true
one_epoch_behind-warms_up = refl

-- a tick later the gap is five
gap_of_five : wiring_of (on_one 4 2 (Clocked Not 5 (0 ∷ []) 1 ∷ []) (Wire 1)) ≡ broken (AtElement 0) (Gap 0 (pos 5))
gap_of_five = refl

-- and with a DRO on the way the inverter's gap is 1
abbrev by_way_of_dro : PulseNet
by_way_of_dro = on_one 4 2 (Clocked Dro 4 (0 ∷ []) 1 ∷ (Clocked Not 5 (1 ∷ []) 2 ∷ [])) (Wire 2)

by_way_of_dro-is_valid : IsValid by_way_of_dro
by_way_of_dro-is_valid = record {
  formed = record { some_phases = lit≤ tt; few_phases = lit≤ tt; latency = lit≤ tt; pins = All-from_recursion HasItsPins by_way_of_dro.elements (refl, (refl, tt)); inputs = refl; outputs = refl };
  unbroken = refl;
}

by_way_of_dro-reads : reads by_way_of_dro three_rows (0 ∷ (1 ∷ (2 ∷ []))) ≡ false ∷ (true ∷ (false ∷ []))
by_way_of_dro-reads = refl

-- a splitter hands a to both pins of an AND
abbrev split_input : PulseNet
split_input = on_one 1 2 (Split 0 1 2 ∷ (Clocked And 1 (1 ∷ (2 ∷ [])) 3 ∷ [])) (Wire 3)

split_input-reads : reads split_input three_rows (0 ∷ (1 ∷ (2 ∷ []))) ≡ true ∷ (false ∷ (true ∷ []))
split_input-reads = refl

-- an element makes the wire that the input made
made_twice : wiring_of (on_one 1 2 (Clocked Dro 1 (0 ∷ []) 0 ∷ []) (Wire 0)) ≡ broken (AtElement 0) (MadeTwice 0)
made_twice = refl

-- two inputs make one wire
input_made_twice : wiring_of (record { names = two_inputs; phases = 1; latency = 1; inputs = Some 7 ∷ (Some 7 ∷ []); elements = []; outputs = Wire 7 ∷ [] }) ≡ broken (Input 1) (MadeTwice 7)
input_made_twice = refl

-- both pins use the one wire
used_twice : wiring_of (on_one 1 2 (Clocked And 1 (0 ∷ (0 ∷ [])) 1 ∷ []) (Wire 1)) ≡ broken (AtElement 0) (UsedTwice 0)
used_twice = refl

-- an element uses what a later element makes
unmade : wiring_of (on_one 1 2 (Clocked Dro 1 (2 ∷ []) 1 ∷ (Clocked Dro 1 (0 ∷ []) 2 ∷ [])) (Wire 1)) ≡ broken (AtElement 0) (Unmade 2)
unmade = refl

-- pins come before the output of an element, where both are wrong
pins_come_first : wiring_of (on_one 1 2 (Clocked Dro 1 (9 ∷ []) 0 ∷ []) (Wire 0)) ≡ broken (AtElement 0) (Unmade 9)
pins_come_first = refl

-- of a splitter too
source_comes_first : wiring_of (on_one 1 2 (Split 9 0 0 ∷ []) (Wire 0)) ≡ broken (AtElement 0) (Unmade 9)
source_comes_first = refl

-- an output is read a tick too late
output_too_late : wiring_of (on_one 1 3 (Clocked Dro 1 (0 ∷ []) 1 ∷ []) (Wire 1)) ≡ broken (Output 0) (Gap 1 (pos 2))
output_too_late = refl

-- of two wires that nobody uses the least is named, whichever was made first
unused : wiring_of (on_two 1 2 (Split 1 9 3 ∷ (Split 0 5 4 ∷ (Clocked Dro 1 (5 ∷ []) 6 ∷ []))) (Wire 6)) ≡ broken Close (Unused 3)
unused = refl

-- no output has a wire, and the latency is 2
no_wires : wiring_of (on_one 4 2 [] One) ≡ broken Latency (NoWires 2)
no_wires = refl

-- a constant is read at every row
abbrev always : PulseNet
always = record { names = one_input; phases = 4; latency = 1; inputs = None ∷ []; elements = []; outputs = One ∷ [] }

always-reads : reads always three_rows (0 ∷ (1 ∷ (2 ∷ []))) ≡ true ∷ (true ∷ (true ∷ []))
always-reads = refl
