-- No step takes a node away: so what has too many nodes at a step has too many at the end.
use Rattle.std.proofs.Common.{◌≡◌, ◌≤◌, ◌++◌, ◌∙◌, ℕ, zero, suc, Bool, true, false, cond, nat_lt, List, [], ◌∷◌, length, take, drop, map, sym, ap, subst, arith}
use Rattle.std.proofs.lemmas.List.{length_push}
use Rattle.net_base.specs.declared.graph.Ref.{Ref}
use Rattle.net_base.specs.declared.graph.Graph.{Graph}
use Rattle.blif_model.specs.declared.design.Bit.{Bit}
use Rattle.blif_model.specs.declared.design.Bit.TheVariants.{Zero, One, Any as Dash}
use Rattle.blif_model.specs.declared.design.Cube.{Cube}
use Rattle.blif_model.specs.declared.design.Table.{Table}
use Rattle.subject_graph.specs.declared.fault.GraphFault.{GraphFault}
use Rattle.subject_graph.specs.declared.fault.GraphFault.TheVariants.{TooManyNodes, NoMemory}
use Rattle.subject_graph.specs.declared.folds.Folding.{Folding}
use Rattle.subject_graph.specs.declared.folds.Folding.TheVariants.{All, Any}
use Rattle.subject_graph.specs.declared.wanted.Wanted.{Wanted}
use Rattle.subject_graph.specs.declared.wanted.Wanted.TheVariants.{Ready, Needed}
use Rattle.subject_graph.specs.Nodes.{node_place}
use Rattle.subject_graph.specs.Steps.{Made, negation, conjunction, first_half, with_wanted, with_neg, with_and, with_or, with_two, folded_within, folded}
use Rattle.subject_graph.specs.Tables.{and_then, with_literal, with_literals, with_row, with_rows, with_output, with_any_row, with_table, ref_at, with_target, with_targets}
use Rattle.subject_graph.specs.Answers.{Refuses}

-- how many nodes a graph has
abbrev pub size : Graph → ℕ
size graph = length graph.nodes

-- A fault tells it of a graph that has as many nodes or more too.
pub Refuses-more : (fault : GraphFault) (few many : Graph) → size few ≤ size many → Refuses fault few → Refuses fault many
Refuses-more TooManyNodes few many more refuses = omega arith
Refuses-more NoMemory few many more refuses = tt

pub wanted-grows : (graph : Graph) (wanted : Wanted) → size graph ≤ size (with_wanted graph wanted).graph
wanted-grows graph (Ready x) = omega arith
wanted-grows graph (Needed node) = by (nat_lt (node_place node graph.nodes) (length graph.nodes))
  where
    by : (b : Bool) → length graph.nodes ≤ length (cond b graph.nodes (graph.nodes ++ node ∷ []))
    by true = omega arith
    by false = omega (arith, length_push graph.nodes node)

pub neg-grows : (graph : Graph) (x : Ref) → size graph ≤ size (with_neg graph x).graph
neg-grows graph x = wanted-grows graph (negation graph.nodes x)

pub and-grows : (graph : Graph) (x y : Ref) → size graph ≤ size (with_and graph x y).graph
and-grows graph x y = wanted-grows graph (conjunction graph.nodes x y)

-- a disjunction, from each of its steps on
pub neither-grows : (graph : Graph) (x y : Ref) →
    let first = with_neg graph x in
    let second = with_neg first.graph y in
    size (with_and second.graph first.answer second.answer).graph ≤ size (with_or graph x y).graph
neither-grows graph x y =
    let first = with_neg graph x in
    let second = with_neg first.graph y in
    let neither = with_and second.graph first.answer second.answer in
    neg-grows neither.graph neither.answer

pub second-grows : (graph : Graph) (x y : Ref) → size (with_neg (with_neg graph x).graph y).graph ≤ size (with_or graph x y).graph
second-grows graph x y =
    let first = with_neg graph x in
    let second = with_neg first.graph y in
    let here : size second.graph ≤ size (with_and second.graph first.answer second.answer).graph = and-grows second.graph first.answer second.answer in
    omega (arith, neither-grows graph x y)

pub first-grows : (graph : Graph) (x y : Ref) → size (with_neg graph x).graph ≤ size (with_or graph x y).graph
first-grows graph x y =
    let here : size (with_neg graph x).graph ≤ size (with_neg (with_neg graph x).graph y).graph = neg-grows (with_neg graph x).graph y in
    omega (arith, second-grows graph x y)

pub or-grows : (graph : Graph) (x y : Ref) → size graph ≤ size (with_or graph x y).graph
or-grows graph x y = let here : size graph ≤ size (with_neg graph x).graph = neg-grows graph x in omega (arith, first-grows graph x y)

pub two-grows : (kind : Folding) (graph : Graph) (x y : Ref) → size graph ≤ size (with_two kind graph x y).graph
two-grows All graph x y = and-grows graph x y
two-grows Any graph x y = or-grows graph x y

folded_within-grows : (depth : ℕ) (kind : Folding) (graph : Graph) (signals : List Ref) → size graph ≤ size (folded_within depth kind graph signals).graph
folded_within-grows zero kind graph signals = omega arith
folded_within-grows (suc depth) kind graph [] = omega arith
folded_within-grows (suc depth) kind graph (x ∷ []) = omega arith
folded_within-grows (suc depth) kind graph (x ∷ (y ∷ more)) =
    let half = first_half (length (x ∷ (y ∷ more))) in
    let first = folded_within depth kind graph (take half (x ∷ (y ∷ more))) in
    let rest = folded_within depth kind first.graph (drop half (x ∷ (y ∷ more))) in
    let one : size graph ≤ size first.graph = folded_within-grows depth kind graph (take half (x ∷ (y ∷ more))) in
    let two : size first.graph ≤ size rest.graph = folded_within-grows depth kind first.graph (drop half (x ∷ (y ∷ more))) in
    let three : size rest.graph ≤ size (with_two kind rest.graph first.answer rest.answer).graph = two-grows kind rest.graph first.answer rest.answer in
    omega arith

pub folded-grows : (kind : Folding) (graph : Graph) (signals : List Ref) → size graph ≤ size (folded kind graph signals).graph
folded-grows kind graph signals = folded_within-grows (length signals) kind graph signals

-- The steps of a disjunction, as calls make them one after the other: where one is refused the whole has too many nodes,
module _ (graph first : Graph) (x y a : Ref) (one : with_neg graph x ≡ record { graph = first; answer = a }) where
  pub second-refused : (fault : GraphFault) → Refuses fault (with_neg first y).graph → Refuses fault (with_or graph x y).graph
  second-refused fault refuses =
      Refuses-more fault (with_neg (with_neg graph x).graph y).graph (with_or graph x y).graph (second-grows graph x y)
      (subst (λ (m : Made Ref). Refuses fault (with_neg m.graph y).graph) (sym one) refuses)

  module _ (second : Graph) (b : Ref) (two : with_neg first y ≡ record { graph = second; answer = b }) where
    neither-made : with_and second a b ≡ with_and (with_neg (with_neg graph x).graph y).graph (with_neg graph x).answer (with_neg (with_neg graph x).graph y).answer
    neither-made =
        sym (ap (λ (n : Made Ref). with_and n.graph a n.answer) two)
        ∙ sym (ap (λ (m : Made Ref). with_and (with_neg m.graph y).graph m.answer (with_neg m.graph y).answer) one)

    pub neither-refused : (fault : GraphFault) → Refuses fault (with_and second a b).graph → Refuses fault (with_or graph x y).graph
    neither-refused fault refuses =
        Refuses-more fault (with_and (with_neg (with_neg graph x).graph y).graph (with_neg graph x).answer (with_neg (with_neg graph x).graph y).answer).graph (with_or graph x y).graph (neither-grows graph x y)
        (subst (λ (m : Made Ref). Refuses fault m.graph) neither-made refuses)

    -- and else they make it.
    pub or-joined : (third : Graph) (c : Ref) → with_and second a b ≡ record { graph = third; answer = c } → with_neg third c ≡ with_or graph x y
    or-joined third c three = ap (λ (m : Made Ref). with_neg m.graph m.answer) (sym three ∙ neither-made)

-- Literals, rows and tables take no node away either,
literal-grows : (made : Made (List Ref)) (bit : Bit) (pin : Ref) → size made.graph ≤ size (with_literal made bit pin).graph
literal-grows made One pin = omega arith
literal-grows made Zero pin = neg-grows made.graph pin
literal-grows made Dash pin = omega arith

pub literals-grow : (made : Made (List Ref)) (bits : List Bit) (pins : List Ref) → size made.graph ≤ size (with_literals made bits pins).graph
literals-grow made [] pins = omega arith
literals-grow made (bit ∷ bits) [] = omega arith
literals-grow made (bit ∷ bits) (pin ∷ pins) =
    let here : size made.graph ≤ size (with_literal made bit pin).graph = literal-grows made bit pin in
    let rest : size (with_literal made bit pin).graph ≤ size (with_literals (with_literal made bit pin) bits pins).graph = literals-grow (with_literal made bit pin) bits pins in
    omega arith

row-grows : (pins : List Ref) (graph : Graph) (row : Cube) → size graph ≤ size (with_row pins graph row).graph
row-grows pins graph row =
    let literals = with_literals (record { graph = graph; answer = [] }) row.bits pins in
    let here : size graph ≤ size literals.graph = literals-grow (record { graph = graph; answer = [] }) row.bits pins in
    let rest : size literals.graph ≤ size (folded All literals.graph literals.answer).graph = folded-grows All literals.graph literals.answer in
    omega arith

pub rows-grow : (pins : List Ref) (made : Made (List Ref)) (rows : List Cube) → size made.graph ≤ size (with_rows pins made rows).graph
rows-grow pins made [] = omega arith
rows-grow pins made (row ∷ rows) =
    let next = and_then made.answer (with_row pins made.graph row) in
    let here : size made.graph ≤ size next.graph = row-grows pins made.graph row in
    let rest : size next.graph ≤ size (with_rows pins next rows).graph = rows-grow pins next rows in
    omega arith

pub output-grows : (on : Bool) (made : Made Ref) → size made.graph ≤ size (with_output on made).graph
output-grows true made = omega arith
output-grows false made = neg-grows made.graph made.answer

table-grows : (pins : List Ref) (graph : Graph) (table : Table) → size graph ≤ size (with_table pins graph table).graph
table-grows pins graph table =
    let signals = with_rows pins (record { graph = graph; answer = [] }) table.rows in
    let any = folded Any signals.graph signals.answer in
    let one : size graph ≤ size signals.graph = rows-grow pins (record { graph = graph; answer = [] }) table.rows in
    let two : size signals.graph ≤ size any.graph = folded-grows Any signals.graph signals.answer in
    let three : size any.graph ≤ size (with_output table.on any).graph = output-grows table.on any in
    omega arith

pub targets-grow : (made : Made (List Ref)) (tables : List Table) → size made.graph ≤ size (with_targets made tables).graph
targets-grow made [] = omega arith
targets-grow made (table ∷ tables) =
    let here : size made.graph ≤ size (with_target made table).graph = table-grows (map (ref_at made.answer) table.pins) made.graph table in
    let rest : size (with_target made table).graph ≤ size (with_targets (with_target made table) tables).graph = targets-grow (with_target made table) tables in
    omega arith

-- so where a row is refused, or its literals are, the whole is.
pub row-refused : (graph : Graph) (pins : List Ref) (row : Cube) (literals : List Ref) (bits : List Bit) (fault : GraphFault) → literals ≡ [] → bits ≡ row.bits →
    Refuses fault (with_literals (record { graph = graph; answer = literals }) bits pins).graph → Refuses fault (with_row pins graph row).graph
row-refused graph pins row literals bits fault none own refuses =
    let made = with_literals (record { graph = graph; answer = [] }) row.bits pins in
    Refuses-more fault made.graph (with_row pins graph row).graph (folded-grows All made.graph made.answer)
    (subst (λ (ls : List Ref). Refuses fault (with_literals (record { graph = graph; answer = ls }) row.bits pins).graph) none
    (subst (λ bs. Refuses fault (with_literals (record { graph = graph; answer = literals }) bs pins).graph) own refuses))

pub any_row-refused : (graph : Graph) (pins : List Ref) (rows : List Cube) (signals : List Ref) (fault : GraphFault) → signals ≡ [] →
    Refuses fault (with_rows pins (record { graph = graph; answer = signals }) rows).graph → Refuses fault (with_any_row pins graph rows).graph
any_row-refused graph pins rows signals fault none refuses =
    let made = with_rows pins (record { graph = graph; answer = [] }) rows in
    Refuses-more fault made.graph (with_any_row pins graph rows).graph (folded-grows Any made.graph made.answer)
    (subst (λ (ss : List Ref). Refuses fault (with_rows pins (record { graph = graph; answer = ss }) rows).graph) none refuses)
