-- Worked cases, computed from the definitions.
use Rattle.std.proofs.Common.{◌≡◌, ℕ, true, List, [], ◌∷◌, refl}
use Rattle.net_base.specs.declared.graph.Ref.TheVariants.{Const, Node}
use Rattle.cell_lib.specs.declared.cell.Cell.{Cell}
use Rattle.cell_lib.specs.declared.cell.Cell.TheVariants.{Dro, Not, And, Or, Xor}
use Rattle.cut_word.specs.Table.{table_of}
use Rattle.cut_word.specs.Word.{first_word, packed, leaves_in}
use Rattle.pattern_table.specs.Formula.{table_over}
use Rattle.pattern_table.specs.Least.{least_head}
use Rattle.gate_net.specs.declared.row.Driver.{Driver}
use Rattle.gate_net.specs.declared.row.Driver.TheVariants.{Input, Gate}
use Rattle.gate_net.specs.declared.row.End.TheVariants.{One, From}
use Rattle.gate_net.specs.declared.row.GateRow.{GateRow}
use Rattle.balance_map.specs.declared.choice.Choice.{Choice}
use Rattle.balance_map.specs.Choices.{own_choice}
use Rattle.balance_map.specs.Needed.{places_in, leaves_used, needed_below}
use Rattle.balance_map.specs.Cover.{with_cell, walked, with_nodes, end_of}

-- a gate of a cell, and a choice of a table over leaves, so deep
gate : Cell → List Driver → GateRow
gate cell pins = record { cell = cell; pins = pins }

chosen : List ℕ → ℕ → ℕ → Choice
chosen leaves table depth = record { cost = 0; arrival = depth; leaves = first_word leaves; table = table; depth = depth }

-- A DRO stands for what drives it; any other cell is a gate, its pins in ascending order, and an equal one is found.
a-dro : with_cell Dro (record { gates = []; by = Gate 4 ∷ [] }) ≡ record { gates = []; by = Gate 4 }
a-dro = refl

in-order : with_cell Or (record { gates = gate Not (Input 0 ∷ []) ∷ []; by = Gate 0 ∷ Input 1 ∷ [] })
    ≡ record { gates = gate Not (Input 0 ∷ []) ∷ gate Or (Input 1 ∷ Gate 0 ∷ []) ∷ []; by = Gate 1 }
unfolding gate
in-order = refl

found : with_cell And (record { gates = gate And (Input 0 ∷ Input 1 ∷ []) ∷ []; by = Input 1 ∷ Input 0 ∷ [] })
    ≡ record { gates = gate And (Input 0 ∷ Input 1 ∷ []) ∷ []; by = Gate 0 }
unfolding gate
found = refl

-- At depth 0 a table is a leaf's; a conjunction is one gate; the complement of the first of two leaves has that leaf alone.
a-leaf : walked (Input 5 ∷ Gate 2 ∷ []) 0 [] 0xCC ≡ record { gates = []; by = Gate 2 }
a-leaf = refl

conjunction : walked (Input 0 ∷ Input 1 ∷ []) 1 [] 0x88 ≡ record { gates = gate And (Input 0 ∷ Input 1 ∷ []) ∷ []; by = Gate 0 }
unfolding least_head table_over table_of gate
conjunction = refl

first-alone : places_in 2 1 0x55 ≡ 0 ∷ []
unfolding least_head table_over table_of
first-alone = refl

used-alone : leaves_used (chosen (3 ∷ 8 ∷ []) 0x55 1) ≡ 3 ∷ []
unfolding least_head table_over table_of chosen first_word packed leaves_in
used-alone = refl

-- a half adder's two choices: over inputs 0 and 1, node 2 is their conjunction, and node 3 their exclusive disjunction
choices : List Choice
choices = own_choice 0 ∷ own_choice 1 ∷ chosen (0 ∷ 1 ∷ []) 0x88 1 ∷ chosen (0 ∷ 1 ∷ []) 0x66 1 ∷ []

-- Both are needed where outputs read both, and node 3 alone where no output reads node 2: it isn't a leaf of node 3.
both-needed : needed_below 2 choices 4 (3 ∷ 2 ∷ []) ≡ 2 ∷ 3 ∷ []
unfolding least_head table_over table_of choices chosen first_word packed leaves_in
both-needed = refl

one-needed : needed_below 2 choices 4 (3 ∷ []) ≡ 3 ∷ []
unfolding least_head table_over table_of choices chosen first_word packed leaves_in
one-needed = refl

half-adder : with_nodes choices (record { gates = []; by = Input 0 ∷ Input 1 ∷ Input 2 ∷ Input 3 ∷ [] }) (2 ∷ 3 ∷ [])
    ≡ record {
      gates = gate And (Input 0 ∷ Input 1 ∷ []) ∷ gate Xor (Input 0 ∷ Input 1 ∷ []) ∷ [];
      by = Input 0 ∷ Input 1 ∷ Gate 0 ∷ Gate 1 ∷ [];
    }
unfolding least_head table_over table_of choices chosen first_word packed leaves_in gate
half-adder = refl

-- constants are no drivers
an-end : end_of (Input 0 ∷ Gate 0 ∷ []) (Const true) ≡ One
an-end = refl

a-node : end_of (Input 0 ∷ Gate 0 ∷ []) (Node 1) ≡ From (Gate 0)
a-node = refl
