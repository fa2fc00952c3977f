-- Rows and tables mean what they are: a row is true where it matches, and a table has its value, over the values of the pins.
use Rattle.std.proofs.Common.{◌≡◌, ◌++◌, ◌∙◌, ◌&&◌, ◌||◌, Bool, true, false, not, List, [], ◌∷◌, length, map, All, refl, sym, ap, arith, append_assoc, if◌then◌else◌}
use Rattle.std.specs.List.{list_any}
use Rattle.std.specs.Cmp.Lexicographic.{pointwise}
use Rattle.std.proofs.lemmas.List.{map-append, append-nil, length-map}
use Rattle.std.proofs.lemmas.List.Elements.{All-nil, All-cons, All-head, All-tail, All-append}
use Rattle.net_base.specs.declared.graph.Ref.{Ref}
use Rattle.net_base.specs.declared.graph.Graph.{Graph}
use Rattle.net_base.specs.Graph.{IsRefThere}
use Rattle.net_base.specs.NodeValues.{ref_value}
use Rattle.blif_model.specs.declared.design.Bit.{Bit}
use Rattle.blif_model.specs.declared.design.Bit.TheVariants.{Zero, One, Any as Dash}
use Rattle.blif_model.specs.declared.design.Cube.{Cube}
use Rattle.blif_model.specs.declared.design.Table.{Table}
use Rattle.blif_model.specs.Values.{bit_matches, row_matches, table_value}
use Rattle.subject_graph.specs.declared.folds.Folding.TheVariants.{All as Every, Any as Either}
use Rattle.subject_graph.specs.Laws.{Keeps}
use Rattle.subject_graph.specs.Steps.{Made, with_neg}
use Rattle.subject_graph.specs.Tables.{and_then, with_literal, with_literals, with_row, with_rows, with_output, with_any_row, with_table}
use Rattle.subject_graph.proofs.Formed.{IsFormed, Keeps-refl, Keeps-trans, Keeps-le, all-there-more, graph_keeps_values}
use Rattle.subject_graph.proofs.Steps.{Means, Means-same, Means-before, Means-itself, neg-means, kept-there}
use Rattle.subject_graph.proofs.Halves.{fold_value, fold_value-append, values-kept, folded-means}

-- Signals that were made from a graph mean values: they are there, in a formed graph that keeps the nodes.
pub record MeansAll (old : Graph) (made : Made (List Ref)) (meaning : List Bool → List Bool) : Type 0 where
  pub formed : IsFormed made.graph
  pub kept : Keeps old made.graph
  pub there : All (IsRefThere (length made.graph.nodes)) made.answer
  pub values : (row : List Bool) → map (ref_value made.graph row) made.answer ≡ meaning row

MeansAll-none : (graph : Graph) → IsFormed graph → MeansAll graph (record { graph = graph; answer = [] }) (λ row. [])
MeansAll-none graph formed = record { formed = formed; kept = Keeps-refl graph; there = All-nil (IsRefThere (length graph.nodes)); values = λ row. refl }

MeansAll-same : (old : Graph) (made : Made (List Ref)) (meaning other : List Bool → List Bool) → ((row : List Bool) → meaning row ≡ other row) → MeansAll old made meaning → MeansAll old made other
MeansAll-same old made meaning other same means = record { formed = means.formed; kept = means.kept; there = means.there; values = λ row. means.values row ∙ same row }

-- One signal more means its value too.
and_then-means : (old : Graph) (made : Made (List Ref)) (next : Made Ref) (meaning : List Bool → List Bool) (value : List Bool → Bool) → MeansAll old made meaning → Means made.graph next value → MeansAll old (and_then made.answer next) (λ row. meaning row ++ value row ∷ [])
and_then-means old made next meaning value all one =
    let here = IsRefThere (length next.graph.nodes) in
    let before : All here made.answer = all-there-more (length made.graph.nodes) (length next.graph.nodes) (Keeps-le made.graph next.graph one.kept) made.answer all.there in
    record {
      formed = one.formed;
      kept = Keeps-trans old made.graph next.graph all.kept one.kept;
      there = All-append here made.answer (next.answer ∷ []) before (All-cons here next.answer [] one.there (All-nil here));
      values = λ row.
          map-append (ref_value next.graph row) made.answer (next.answer ∷ [])
          ∙ (λ i. (values-kept made.graph next.graph row made.answer one.kept all.there ∙ all.values row) i ++ one.value row i ∷ []);
    }

-- the values of the literals of bits
abbrev pub literal_values : Bit → Bool → List Bool
literal_values One value = value ∷ []
literal_values Zero value = not value ∷ []
literal_values Dash value = []

abbrev pub literals_values : List Bit → List Bool → List Bool
literals_values [] values = []
literals_values (bit ∷ bits) [] = []
literals_values (bit ∷ bits) (value ∷ values) = literal_values bit value ++ literals_values bits values

with_literal-means : (old : Graph) (made : Made (List Ref)) (bit : Bit) (pin : Ref) (meaning : List Bool → List Bool) → MeansAll old made meaning → IsRefThere (length old.nodes) pin → MeansAll old (with_literal made bit pin) (λ row. meaning row ++ literal_values bit (ref_value old row pin))
with_literal-means old made One pin meaning all there =
    let here : IsRefThere (length made.graph.nodes) pin = kept-there old made.graph pin all.kept there in
    and_then-means old made (record { graph = made.graph; answer = pin }) meaning (λ row. ref_value old row pin) all
    (Means-same made.graph (record { graph = made.graph; answer = pin }) (λ row. ref_value made.graph row pin) (λ row. ref_value old row pin)
    (λ row. graph_keeps_values old made.graph row pin all.kept there) (Means-itself made.graph pin all.formed here))
with_literal-means old made Zero pin meaning all there =
    let here : IsRefThere (length made.graph.nodes) pin = kept-there old made.graph pin all.kept there in
    and_then-means old made (with_neg made.graph pin) meaning (λ row. not (ref_value old row pin)) all
    (Means-same made.graph (with_neg made.graph pin) (λ row. not (ref_value made.graph row pin)) (λ row. not (ref_value old row pin))
    (λ row. ap not (graph_keeps_values old made.graph row pin all.kept there)) (neg-means made.graph pin all.formed here))
with_literal-means old made Dash pin meaning all there = MeansAll-same old made meaning (λ row. meaning row ++ []) (λ row. sym (append-nil (meaning row))) all

with_literals-means : (old : Graph) (made : Made (List Ref)) (bits : List Bit) (pins : List Ref) (meaning : List Bool → List Bool) → MeansAll old made meaning → All (IsRefThere (length old.nodes)) pins → MeansAll old (with_literals made bits pins) (λ row. meaning row ++ literals_values bits (map (ref_value old row) pins))
with_literals-means old made [] pins meaning all there = MeansAll-same old made meaning (λ row. meaning row ++ []) (λ row. sym (append-nil (meaning row))) all
with_literals-means old made (bit ∷ bits) [] meaning all there = MeansAll-same old made meaning (λ row. meaning row ++ []) (λ row. sym (append-nil (meaning row))) all
with_literals-means old made (bit ∷ bits) (pin ∷ pins) meaning all there =
    let is_there = IsRefThere (length old.nodes) in
    let one = λ (row : List Bool). literal_values bit (ref_value old row pin) in
    let next : MeansAll old (with_literal made bit pin) (λ row. meaning row ++ one row) = with_literal-means old made bit pin meaning all (All-head is_there pin pins there) in
    MeansAll-same old (with_literals (with_literal made bit pin) bits pins) (λ row. (meaning row ++ one row) ++ literals_values bits (map (ref_value old row) pins)) (λ row. meaning row ++ (one row ++ literals_values bits (map (ref_value old row) pins)))
    (λ row. append_assoc (meaning row) (one row) (literals_values bits (map (ref_value old row) pins)))
    (with_literals-means old (with_literal made bit pin) bits pins (λ row. meaning row ++ one row) next (All-tail is_there pin pins there))

-- All literals of a row are true exactly where it matches.
literal-matches : (bit : Bit) (value : Bool) → fold_value Every (literal_values bit value) ≡ bit_matches bit value
literal-matches One true = refl
literal-matches One false = refl
literal-matches Zero true = refl
literal-matches Zero false = refl
literal-matches Dash value = refl

literals-match : (bits : List Bit) (values : List Bool) → length bits ≡ length values → fold_value Every (literals_values bits values) ≡ pointwise bit_matches bits values
literals-match [] [] fit = refl
literals-match [] (value ∷ values) fit = absurd (omega arith)
literals-match (bit ∷ bits) [] fit = absurd (omega arith)
literals-match (bit ∷ bits) (value ∷ values) fit =
    fold_value-append Every (literal_values bit value) (literals_values bits values)
    ∙ (λ i. literal-matches bit value i && literals-match bits values (omega arith) i)

with_row-means : (graph : Graph) (pins : List Ref) (cube : Cube) → IsFormed graph → All (IsRefThere (length graph.nodes)) pins → length cube.bits ≡ length pins → Means graph (with_row pins graph cube) (λ row. row_matches (map (ref_value graph row) pins) cube)
with_row-means graph pins cube formed there fit =
    let literals = with_literals (record { graph = graph; answer = [] }) cube.bits pins in
    let all : MeansAll graph literals (λ row. literals_values cube.bits (map (ref_value graph row) pins)) =
    with_literals-means graph (record { graph = graph; answer = [] }) cube.bits pins (λ row. []) (MeansAll-none graph formed) there in
    Means-before graph literals.graph (with_row pins graph cube) (λ row. row_matches (map (ref_value graph row) pins) cube) all.kept
    (Means-same literals.graph (with_row pins graph cube) (λ row. fold_value Every (map (ref_value literals.graph row) literals.answer)) (λ row. row_matches (map (ref_value graph row) pins) cube)
    (λ row. ap (fold_value Every) (all.values row) ∙ literals-match cube.bits (map (ref_value graph row) pins) (fit ∙ sym (length-map pins (ref_value graph row))))
    (folded-means Every literals.graph literals.answer all.formed all.there))

with_rows-means : (old : Graph) (pins : List Ref) (made : Made (List Ref)) (rows : List Cube) (meaning : List Bool → List Bool) → MeansAll old made meaning → All (IsRefThere (length old.nodes)) pins → All (λ (cube : Cube). length cube.bits ≡ length pins) rows →
    MeansAll old (with_rows pins made rows) (λ row. meaning row ++ map (row_matches (map (ref_value old row) pins)) rows)
with_rows-means old pins made [] meaning all there fit = MeansAll-same old made meaning (λ row. meaning row ++ []) (λ row. sym (append-nil (meaning row))) all
with_rows-means old pins made (cube ∷ rows) meaning all there fit =
    let fits = λ (c : Cube). length c.bits ≡ length pins in
    let matches = λ (row : List Bool). row_matches (map (ref_value old row) pins) in
    let here : All (IsRefThere (length made.graph.nodes)) pins = all-there-more (length old.nodes) (length made.graph.nodes) (Keeps-le old made.graph all.kept) pins there in
    let one : Means made.graph (with_row pins made.graph cube) (λ row. matches row cube) =
    Means-same made.graph (with_row pins made.graph cube) (λ row. row_matches (map (ref_value made.graph row) pins) cube) (λ row. matches row cube)
    (λ row. ap (λ values. row_matches values cube) (values-kept old made.graph row pins all.kept there))
    (with_row-means made.graph pins cube all.formed here (All-head fits cube rows fit)) in
    let next = and_then made.answer (with_row pins made.graph cube) in
    MeansAll-same old (with_rows pins next rows) (λ row. (meaning row ++ matches row cube ∷ []) ++ map (matches row) rows) (λ row. meaning row ++ (matches row cube ∷ map (matches row) rows))
    (λ row. append_assoc (meaning row) (matches row cube ∷ []) (map (matches row) rows))
    (with_rows-means old pins next rows (λ row. meaning row ++ matches row cube ∷ []) (and_then-means old made (with_row pins made.graph cube) meaning (λ row. matches row cube) all one) there (All-tail fits cube rows fit))

-- Some row is true exactly where one matches.
any-value : (matches : Cube → Bool) (rows : List Cube) → fold_value Either (map matches rows) ≡ list_any matches rows
any-value matches [] = refl
any-value matches (cube ∷ rows) = λ i. matches cube || any-value matches rows i

with_any_row-means : (graph : Graph) (pins : List Ref) (rows : List Cube) → IsFormed graph → All (IsRefThere (length graph.nodes)) pins → All (λ (cube : Cube). length cube.bits ≡ length pins) rows → Means graph (with_any_row pins graph rows) (λ row. list_any (row_matches (map (ref_value graph row) pins)) rows)
with_any_row-means graph pins rows formed there fit =
    let signals = with_rows pins (record { graph = graph; answer = [] }) rows in
    let all : MeansAll graph signals (λ row. map (row_matches (map (ref_value graph row) pins)) rows) =
    with_rows-means graph pins (record { graph = graph; answer = [] }) rows (λ row. []) (MeansAll-none graph formed) there fit in
    Means-before graph signals.graph (with_any_row pins graph rows) (λ row. list_any (row_matches (map (ref_value graph row) pins)) rows) all.kept
    (Means-same signals.graph (with_any_row pins graph rows) (λ row. fold_value Either (map (ref_value signals.graph row) signals.answer)) (λ row. list_any (row_matches (map (ref_value graph row) pins)) rows)
    (λ row. ap (fold_value Either) (all.values row) ∙ any-value (row_matches (map (ref_value graph row) pins)) rows)
    (folded-means Either signals.graph signals.answer all.formed all.there))

with_output-means : (graph : Graph) (on : Bool) (made : Made Ref) (value : List Bool → Bool) → Means graph made value → Means graph (with_output on made) (λ row. if on then value row else not (value row))
with_output-means graph true made value means = means
with_output-means graph false made value means =
    Means-before graph made.graph (with_neg made.graph made.answer) (λ row. not (value row)) means.kept
    (Means-same made.graph (with_neg made.graph made.answer) (λ row. not (ref_value made.graph row made.answer)) (λ row. not (value row)) (λ row. ap not (means.value row))
    (neg-means made.graph made.answer means.formed means.there))

-- A table has its value over the values of its pins.
pub with_table-means : (graph : Graph) (pins : List Ref) (table : Table) → IsFormed graph → All (IsRefThere (length graph.nodes)) pins → All (λ (cube : Cube). length cube.bits ≡ length pins) table.rows → Means graph (with_table pins graph table) (λ row. table_value table (map (ref_value graph row) pins))
with_table-means graph pins table formed there fit =
    with_output-means graph table.on (with_any_row pins graph table.rows) (λ row. list_any (row_matches (map (ref_value graph row) pins)) table.rows) (with_any_row-means graph pins table.rows formed there fit)
