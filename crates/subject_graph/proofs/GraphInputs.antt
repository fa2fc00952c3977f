-- A graph that grows keeps its inputs: each step of a subject adds nodes alone. So a design's graph has the design's inputs.
use Rattle.std.proofs.Common.{◌≡◌, ◌∙◌, ℕ, zero, suc, Bool, true, false, List, [], ◌∷◌, length, take, drop, refl}
use Rattle.net_base.specs.declared.graph.Ref.{Ref}
use Rattle.net_base.specs.declared.graph.Graph.{Graph}
use Rattle.blif_model.specs.declared.design.Bit.{Bit}
use Rattle.blif_model.specs.declared.design.Bit.TheVariants.{Zero, One, Any as Dash}
use Rattle.blif_model.specs.declared.design.Cube.{Cube}
use Rattle.blif_model.specs.declared.design.Table.{Table}
use Rattle.blif_model.specs.declared.design.Ordered.{Ordered}
use Rattle.blif_model.specs.Values.{tables_at}
use Rattle.subject_graph.specs.declared.wanted.Wanted.{Wanted}
use Rattle.subject_graph.specs.declared.wanted.Wanted.TheVariants.{Ready, Needed}
use Rattle.subject_graph.specs.declared.folds.Folding.{Folding}
use Rattle.subject_graph.specs.declared.folds.Folding.TheVariants.{All, Any}
use Rattle.subject_graph.specs.Steps.{Made, negation, conjunction, with_wanted, with_neg, with_and, with_or, with_two, first_half, folded_within, folded}
use Rattle.subject_graph.specs.Tables.{ref_at, and_then, with_literal, with_literals, with_row, with_rows, with_output, with_any_row, with_table, with_target, with_targets, with_inputs, subject_of}
use Rattle.std.specs.Prelude.{map}

-- A node more,
with_wanted-inputs : (graph : Graph) (wanted : Wanted) → (with_wanted graph wanted).graph.inputs ≡ graph.inputs
with_wanted-inputs graph (Ready x) = refl
with_wanted-inputs graph (Needed node) = refl

with_neg-inputs : (graph : Graph) (x : Ref) → (with_neg graph x).graph.inputs ≡ graph.inputs
with_neg-inputs graph x = with_wanted-inputs graph (negation graph.nodes x)

with_and-inputs : (graph : Graph) (x y : Ref) → (with_and graph x y).graph.inputs ≡ graph.inputs
with_and-inputs graph x y = with_wanted-inputs graph (conjunction graph.nodes x y)

with_or-inputs : (graph : Graph) (x y : Ref) → (with_or graph x y).graph.inputs ≡ graph.inputs
with_or-inputs graph x y =
    let first = with_neg graph x in
    let second = with_neg first.graph y in
    let neither = with_and second.graph first.answer second.answer in
    with_neg-inputs neither.graph neither.answer ∙ with_and-inputs second.graph first.answer second.answer ∙ with_neg-inputs first.graph y ∙ with_neg-inputs graph x

with_two-inputs : (kind : Folding) (graph : Graph) (x y : Ref) → (with_two kind graph x y).graph.inputs ≡ graph.inputs
with_two-inputs All graph x y = with_and-inputs graph x y
with_two-inputs Any graph x y = with_or-inputs graph x y

-- a fold,
folded_within-inputs : (depth : ℕ) (kind : Folding) (graph : Graph) (signals : List Ref) → (folded_within depth kind graph signals).graph.inputs ≡ graph.inputs
folded_within-inputs zero kind graph signals = refl
folded_within-inputs (suc depth) kind graph [] = refl
folded_within-inputs (suc depth) kind graph (x ∷ []) = refl
folded_within-inputs (suc depth) kind graph (x ∷ (y ∷ more)) =
    let half = first_half (length (x ∷ (y ∷ more))) in
    let first = folded_within depth kind graph (take half (x ∷ (y ∷ more))) in
    let rest = folded_within depth kind first.graph (drop half (x ∷ (y ∷ more))) in
    with_two-inputs kind rest.graph first.answer rest.answer
    ∙ folded_within-inputs depth kind first.graph (drop half (x ∷ (y ∷ more)))
    ∙ folded_within-inputs depth kind graph (take half (x ∷ (y ∷ more)))

folded-inputs : (kind : Folding) (graph : Graph) (signals : List Ref) → (folded kind graph signals).graph.inputs ≡ graph.inputs
folded-inputs kind graph signals = folded_within-inputs (length signals) kind graph signals

-- literals and rows,
with_literal-inputs : (made : Made (List Ref)) (bit : Bit) (pin : Ref) → (with_literal made bit pin).graph.inputs ≡ made.graph.inputs
with_literal-inputs made One pin = refl
with_literal-inputs made Zero pin = with_neg-inputs made.graph pin
with_literal-inputs made Dash pin = refl

with_literals-inputs : (made : Made (List Ref)) (bits : List Bit) (pins : List Ref) → (with_literals made bits pins).graph.inputs ≡ made.graph.inputs
with_literals-inputs made [] pins = refl
with_literals-inputs made (bit ∷ bits) [] = refl
with_literals-inputs made (bit ∷ bits) (pin ∷ pins) = with_literals-inputs (with_literal made bit pin) bits pins ∙ with_literal-inputs made bit pin

with_row-inputs : (pins : List Ref) (graph : Graph) (row : Cube) → (with_row pins graph row).graph.inputs ≡ graph.inputs
with_row-inputs pins graph row =
    let none : Made (List Ref) = record { graph = graph; answer = [] } in
    let literals = with_literals none row.bits pins in
    folded-inputs All literals.graph literals.answer ∙ with_literals-inputs none row.bits pins

with_rows-inputs : (pins : List Ref) (made : Made (List Ref)) (rows : List Cube) → (with_rows pins made rows).graph.inputs ≡ made.graph.inputs
with_rows-inputs pins made [] = refl
with_rows-inputs pins made (row ∷ rows) = with_rows-inputs pins (and_then made.answer (with_row pins made.graph row)) rows ∙ with_row-inputs pins made.graph row

with_output-inputs : (on : Bool) (made : Made Ref) → (with_output on made).graph.inputs ≡ made.graph.inputs
with_output-inputs true made = refl
with_output-inputs false made = with_neg-inputs made.graph made.answer

-- and tables.
with_table-inputs : (pins : List Ref) (graph : Graph) (table : Table) → (with_table pins graph table).graph.inputs ≡ graph.inputs
with_table-inputs pins graph table =
    let none : Made (List Ref) = record { graph = graph; answer = [] } in
    let signals = with_rows pins none table.rows in
    with_output-inputs table.on (with_any_row pins graph table.rows) ∙ folded-inputs Any signals.graph signals.answer ∙ with_rows-inputs pins none table.rows

with_targets-inputs : (made : Made (List Ref)) (tables : List Table) → (with_targets made tables).graph.inputs ≡ made.graph.inputs
with_targets-inputs made [] = refl
with_targets-inputs made (table ∷ tables) = with_targets-inputs (with_target made table) tables ∙ with_table-inputs (map (ref_at made.answer) table.pins) made.graph table

pub subject_of-inputs : (ordered : Ordered) → (subject_of ordered).graph.inputs ≡ length ordered.design.inputs
subject_of-inputs ordered = with_targets-inputs (with_inputs ordered.design) (tables_at ordered.design.tables ordered.order)
