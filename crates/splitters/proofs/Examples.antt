-- Small netlists by hand, laid out by evaluation: a false definition fails here.
use Rattle.std.specs.Prelude.{◌≡◌, ℕ, [], ◌∷◌, Some, None, refl}
use Rattle.cell_lib.specs.declared.cell.Cell.TheVariants.{Dro, Not, And, Or, Maj}
use Rattle.gate_net.specs.declared.row.Driver.TheVariants.{Input, Gate}
use Rattle.gate_net.specs.declared.row.End.TheVariants.{One as True, From}
use Rattle.pulse_net.specs.declared.net.Names.{Names}
use Rattle.pulse_net.specs.declared.net.Element.TheVariants.{Clocked, Split}
use Rattle.pulse_net.specs.declared.net.Outlet.TheVariants.{One, Wire}
use Rattle.dro_chains.specs.declared.chain.Chained.{Chained}
use Rattle.splitters.specs.Spread.{spread_lines, spread_wires}
use Rattle.splitters.specs.Elements.{elements_of}
use Rattle.splitters.specs.Laws.{HasNames}

-- over three targets: the first half is the larger one
three_lines : spread_lines 7 10 3 ≡ Split 7 10 11 ∷ (Split 10 12 13 ∷ [])
three_lines = refl

three_wires : spread_wires 7 10 3 ≡ 12 ∷ (13 ∷ (11 ∷ []))
three_wires = refl

-- over five
five_lines : spread_lines 7 10 5 ≡ Split 7 10 11 ∷ (Split 10 12 13 ∷ (Split 12 14 15 ∷ (Split 11 16 17 ∷ [])))
five_lines = refl

five_wires : spread_wires 7 10 5 ≡ 14 ∷ (15 ∷ (13 ∷ (16 ∷ (17 ∷ []))))
five_wires = refl

-- a model `m` with an input `a` and an output `f`
abbrev names : Names
names = record { model = 109 ∷ []; inputs = (97 ∷ []) ∷ []; outputs = (102 ∷ []) ∷ [] }

-- (not a and a) or a, with one phase: a is kept for two more epochs
abbrev kept : Chained
kept = record {
  gates = record {
    inputs = 1;
    gates = record { cell = Not; pins = Input 0 ∷ [] }
        ∷ (record { cell = And; pins = Input 0 ∷ (Gate 0 ∷ []) } ∷ (record { cell = Or; pins = Input 0 ∷ (Gate 1 ∷ []) } ∷ []));
    outputs = From (Gate 2) ∷ [];
  };
  n = 1;
  stages = 1 ∷ (2 ∷ (3 ∷ []));
  latency = 4;
  lengths = 2 ∷ (0 ∷ (0 ∷ (0 ∷ [])));
  needs = 0 ∷ (1 ∷ (0 ∷ (2 ∷ (0 ∷ (0 ∷ [])))));
}

kept_names : HasNames kept names
kept_names = record { inputs = refl; outputs = refl }

kept_netlist : elements_of kept names ≡ record {
  names = names;
  phases = 1;
  latency = 4;
  inputs = Some 0 ∷ [];
  elements = Split 0 1 2
      ∷ (Clocked Dro 1 (1 ∷ []) 3
      ∷ (Split 3 4 5
      ∷ (Clocked Dro 2 (4 ∷ []) 6
      ∷ (Clocked Not 1 (2 ∷ []) 7
      ∷ (Clocked And 2 (5 ∷ (7 ∷ [])) 8 ∷ (Clocked Or 3 (6 ∷ (8 ∷ [])) 9 ∷ []))))));
  outputs = Wire 9 ∷ [];
}
kept_netlist = refl

-- a model `m` with inputs `a` and `b`, and outputs `f` and `g`
abbrev two_names : Names
two_names = record { model = 109 ∷ []; inputs = (97 ∷ []) ∷ ((98 ∷ []) ∷ []); outputs = (102 ∷ []) ∷ ((103 ∷ []) ∷ []) }

-- the second of two inputs is an output, after a constant, and the first has no use
abbrev passed : Chained
passed = record {
  gates = record { inputs = 2; gates = []; outputs = True ∷ (From (Input 1) ∷ []) };
  n = 4;
  stages = [];
  latency = 1;
  lengths = 0 ∷ [];
  needs = 0 ∷ [];
}

passed_names : HasNames passed two_names
passed_names = record { inputs = refl; outputs = refl }

passed_netlist : elements_of passed two_names ≡ record {
  names = two_names;
  phases = 4;
  latency = 1;
  inputs = None ∷ (Some 0 ∷ []);
  elements = [];
  outputs = One ∷ (Wire 0 ∷ []);
}
passed_netlist = refl

-- an inverter at four phases: four ticks behind the input it needs no DRO, and five ticks behind it needs one
abbrev inverted : ℕ → ℕ → Chained
inverted stage need = record {
  gates = record { inputs = 1; gates = record { cell = Not; pins = Input 0 ∷ [] } ∷ []; outputs = From (Gate 0) ∷ [] };
  n = 4;
  stages = stage ∷ [];
  latency = 2;
  lengths = need ∷ (0 ∷ []);
  needs = need ∷ (0 ∷ []);
}

gap_of_four : elements_of (inverted 4 0) names ≡ record {
  names = names;
  phases = 4;
  latency = 2;
  inputs = Some 0 ∷ [];
  elements = Clocked Not 4 (0 ∷ []) 1 ∷ [];
  outputs = Wire 1 ∷ [];
}
gap_of_four = refl

gap_of_five : elements_of (inverted 5 1) names ≡ record {
  names = names;
  phases = 4;
  latency = 2;
  inputs = Some 0 ∷ [];
  elements = Clocked Dro 4 (0 ∷ []) 1 ∷ (Clocked Not 5 (1 ∷ []) 2 ∷ []);
  outputs = Wire 2 ∷ [];
}
gap_of_five = refl

-- the majority of three inputs, of which the second waits for one epoch more and is an output too
abbrev voted : Chained
voted = record {
  gates = record {
    inputs = 3;
    gates = record { cell = Maj; pins = Input 0 ∷ (Input 1 ∷ (Input 2 ∷ [])) } ∷ [];
    outputs = From (Gate 0) ∷ (From (Input 1) ∷ []);
  };
  n = 1;
  stages = 1 ∷ [];
  latency = 2;
  lengths = 0 ∷ (1 ∷ (0 ∷ (0 ∷ [])));
  needs = 0 ∷ (0 ∷ (0 ∷ (0 ∷ (1 ∷ []))));
}

voted_names : Names
voted_names = record { model = 109 ∷ []; inputs = (97 ∷ []) ∷ ((98 ∷ []) ∷ ((99 ∷ []) ∷ [])); outputs = (102 ∷ []) ∷ ((103 ∷ []) ∷ []) }

voted_netlist : elements_of voted voted_names ≡ record {
  names = voted_names;
  phases = 1;
  latency = 2;
  inputs = Some 0 ∷ (Some 1 ∷ (Some 2 ∷ []));
  elements = Split 1 3 4 ∷ (Clocked Dro 1 (3 ∷ []) 5 ∷ (Clocked Maj 1 (0 ∷ (4 ∷ (2 ∷ []))) 6 ∷ []));
  outputs = Wire 6 ∷ (Wire 5 ∷ []);
}
voted_netlist = refl
