-- Small designs by hand, with the nodes that the rules make of them: a false definition fails here.
-- Signals: 0 is `a`, 1 is `b`, 2 is `f`.
use Rattle.std.proofs.Common.{◌≡◌, Bool, true, false, List, [], ◌∷◌, refl}
use Rattle.net_base.specs.declared.graph.GNode.TheVariants.{Inp, Neg, Both}
use Rattle.net_base.specs.declared.graph.Ref.TheVariants.{Const, Node}
use Rattle.blif_model.specs.declared.design.Bit.{Bit}
use Rattle.blif_model.specs.declared.design.Bit.TheVariants.{Zero, One, Any}
use Rattle.blif_model.specs.declared.design.Cube.{Cube}
use Rattle.blif_model.specs.declared.design.Ordered.{Ordered}
use Rattle.subject_graph.specs.declared.folds.Folding.TheVariants.{All as Every, Any as Some}
use Rattle.subject_graph.specs.Nodes.{input_graph}
use Rattle.subject_graph.specs.Steps.{with_neg, with_and, with_or, folded}
use Rattle.subject_graph.specs.Tables.{subject_of}

-- a row of these bits
abbrev row : List Bit → Cube
row bits = record { bits = bits }

-- the design of one table over a and b, whose target f is the output
abbrev of_table : List Cube → Bool → Ordered
of_table rows on =
    record {
      design = record { name = 109 ∷ []; names = (97 ∷ []) ∷ ((98 ∷ []) ∷ ((102 ∷ []) ∷ [])); inputs = 0 ∷ (1 ∷ []); outputs = 2 ∷ []; tables = record { line = 3; pins = 0 ∷ (1 ∷ []); target = 2; rows = rows; on = on } ∷ [] };
      order = 0 ∷ [];
    }

-- `10 1`: f = a and not b
and_not : subject_of (of_table (row (One ∷ (Zero ∷ [])) ∷ []) true) ≡ record { graph = record { inputs = 2; nodes = Inp 0 ∷ (Inp 1 ∷ (Neg 1 ∷ (Both 0 2 ∷ []))) }; outputs = Node 3 ∷ [] }
and_not = refl

-- `10 1`, `01 1`: an exclusive or
either : subject_of (of_table (row (One ∷ (Zero ∷ [])) ∷ (row (Zero ∷ (One ∷ [])) ∷ [])) true)
    ≡ record { graph = record { inputs = 2; nodes = Inp 0 ∷ (Inp 1 ∷ (Neg 1 ∷ (Both 0 2 ∷ (Neg 0 ∷ (Both 1 4 ∷ (Neg 3 ∷ (Neg 5 ∷ (Both 6 7 ∷ (Neg 8 ∷ []))))))))) }; outputs = Node 9 ∷ [] }
either = refl

-- without rows: false
rowless : subject_of (of_table [] true) ≡ record { graph = record { inputs = 2; nodes = Inp 0 ∷ (Inp 1 ∷ []) }; outputs = Const false ∷ [] }
rowless = refl

-- `1- 0`: f = not a; the row is a itself, since `-` is no literal
off : subject_of (of_table (row (One ∷ (Any ∷ [])) ∷ []) false) ≡ record { graph = record { inputs = 2; nodes = Inp 0 ∷ (Inp 1 ∷ (Neg 0 ∷ [])) }; outputs = Node 2 ∷ [] }
off = refl

-- `0- 0`: f = a, since the complement of a complement is found
off_complement : subject_of (of_table (row (Zero ∷ (Any ∷ [])) ∷ []) false) ≡ record { graph = record { inputs = 2; nodes = Inp 0 ∷ (Inp 1 ∷ (Neg 0 ∷ [])) }; outputs = Node 0 ∷ [] }
off_complement = refl

-- `-- 1`: a row without literals is true
open_row : subject_of (of_table (row (Any ∷ (Any ∷ [])) ∷ []) true) ≡ record { graph = record { inputs = 2; nodes = Inp 0 ∷ (Inp 1 ∷ []) }; outputs = Const true ∷ [] }
open_row = refl

-- a conjunction has the lower number first, of one node it is that node, and with the complement it is false
lower_first : with_and (input_graph 2) (Node 1) (Node 0) ≡ record { graph = record { inputs = 2; nodes = Inp 0 ∷ (Inp 1 ∷ (Both 0 1 ∷ [])) }; answer = Node 2 }
lower_first = refl

of_itself : with_and (input_graph 2) (Node 1) (Node 1) ≡ record { graph = input_graph 2; answer = Node 1 }
of_itself = refl

with_complement : with_and (with_neg (input_graph 1) (Node 0)).graph (Node 1) (Node 0) ≡ record { graph = record { inputs = 1; nodes = Inp 0 ∷ (Neg 0 ∷ []) }; answer = Const false }
with_complement = refl

-- a disjunction: the first one's complement, the second one's, their conjunction, its complement
in_order : with_or (input_graph 2) (Node 1) (Node 0) ≡ record { graph = record { inputs = 2; nodes = Inp 0 ∷ (Inp 1 ∷ (Neg 1 ∷ (Neg 0 ∷ (Both 2 3 ∷ (Neg 4 ∷ []))))) }; answer = Node 5 }
in_order = refl

-- three signals: the first two are folded, then the third stays, and then both are made one
three : folded Every (input_graph 3) (Node 0 ∷ (Node 1 ∷ (Node 2 ∷ []))) ≡ record { graph = record { inputs = 3; nodes = Inp 0 ∷ (Inp 1 ∷ (Inp 2 ∷ (Both 0 1 ∷ (Both 2 3 ∷ [])))) }; answer = Node 4 }
three = refl

-- the same by `or`: 0 or 1 is node 6, and that or 2 is node 9, since the complement of node 6 is node 5
any_of_three : folded Some (input_graph 3) (Node 0 ∷ (Node 1 ∷ (Node 2 ∷ [])))
    ≡ record { graph = record { inputs = 3; nodes = Inp 0 ∷ (Inp 1 ∷ (Inp 2 ∷ (Neg 0 ∷ (Neg 1 ∷ (Both 3 4 ∷ (Neg 5 ∷ (Neg 2 ∷ (Both 5 7 ∷ (Neg 8 ∷ []))))))))) }; answer = Node 9 }
any_of_three = refl
