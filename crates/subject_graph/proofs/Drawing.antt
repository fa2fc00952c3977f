-- The graph of a design means its signals: each table adds what its target is, and nothing that is there changes.
use Rattle.std.proofs.Common.{◌≡◌, ◌==◌, ◌<◌, ◌≤◌, ◌+◌, ◌∙◌, ◌⊎◌, ⊎_elim, ℕ, Bool, true, false, cond, List, [], ◌∷◌, length, get_or, set, map, drop, replicate, All, Option, Some, None, refl, sym, ap, subst, arith}
use Rattle.std.specs.Prelude.{slice_get}
use Rattle.std.specs.Prelude.{Contains, Ok}
use Rattle.std.specs.Cmp.{nat_eq_equiv}
use Rattle.std.proofs.lemmas.Map.Views.{list_any-from_Contains}
use Rattle.std.specs.List.{cons_option}
use Rattle.std.proofs.lemmas.Bool.{cases_lt, eqb-true, eq-eqb, both_ways}
use Rattle.std.proofs.lemmas.List.{get_or_past, get_or-replicate, get_or-set_same, get_or-set_other, length-set, length-replicate, length-map, drop_more, drop_all}
use Rattle.std.proofs.lemmas.List.Elements.{All-nil, All-cons, All-head, All-tail, All-map, All-set, All-replicate, All-weaker, All-contains_itself}
use Rattle.std.proofs.lemmas.Option.{slice_get_cases}
use Rattle.net_base.specs.declared.graph.GNode.TheVariants.{Inp}
use Rattle.net_base.specs.declared.graph.Ref.{Ref}
use Rattle.net_base.specs.declared.graph.Ref.TheVariants.{Const, Node}
use Rattle.net_base.specs.declared.graph.Graph.{Graph}
use Rattle.net_base.specs.Graph.{IsRefThere}
use Rattle.net_base.specs.NodeValues.{value_of, node_values, ref_value}
use Rattle.blif_model.specs.declared.design.Cube.{Cube}
use Rattle.blif_model.specs.declared.design.Table.{Table}
use Rattle.blif_model.specs.declared.design.Design.{Design}
use Rattle.blif_model.specs.declared.design.Ordered.{Ordered}
use Rattle.blif_model.specs.declared.design.TheConstants.{MAX_INPUTS}
use Rattle.blif_model.specs.Regular.{IsTable, IsRegular}
use Rattle.blif_model.specs.Values.{Values, table_value, input_values, with_target as with_target_value, with_targets as with_target_values, tables_at, signal_value}
use Rattle.blif_model.specs.Order.{table_order}
use Rattle.blif_model.proofs.CallerLemmas.{ordered-from_Ok, listed-below}
use Rattle.subject_graph.specs.Nodes.{input_graph}
use Rattle.subject_graph.specs.Steps.{Made}
use Rattle.subject_graph.specs.Tables.{ref_at, input_refs, with_inputs, with_table, with_target, with_targets, drawn}
use Rattle.subject_graph.specs.Laws.{SubjectHasValues}
use Rattle.subject_graph.proofs.Places.{length-inputs, input-at}
use Rattle.subject_graph.proofs.Formed.{IsFormed, IsFormed-proper, input-proper, value-at, graph_keeps_values}
use Rattle.subject_graph.proofs.Steps.{Means, kept-there}
use Rattle.subject_graph.proofs.Meanings.{with_table-means}

-- What a signal is is there where all are.
pub ref_at-there : (nodes : ℕ) (refs : List Ref) (signal : ℕ) → All (IsRefThere nodes) refs → IsRefThere nodes (ref_at refs signal)
ref_at-there nodes refs signal there =
    ⊎_elim {C = IsRefThere nodes (ref_at refs signal)}
    (λ within. there signal (Const false) within)
    (λ past. subst (IsRefThere nodes) (sym (get_or_past refs signal (Const false) past)) tt)
    (cases_lt signal (length refs))

pub refs-there : (nodes : ℕ) (refs : List Ref) (signals : List ℕ) → All (IsRefThere nodes) refs → All (IsRefThere nodes) (map (ref_at refs) signals)
refs-there nodes refs signals there = All-map (IsRefThere nodes) (ref_at refs) signals (λ k d within. ref_at-there nodes refs (get_or signals k d) there)

-- The graph of a design so far means values: all its signals have them, over each row.
pub record IsDrawn (made : Made (List Ref)) (meaning : List Bool → Values) : Type 0 where
  pub formed : IsFormed made.graph
  pub there : All (IsRefThere (length made.graph.nodes)) made.answer
  pub value : (row : List Bool) (signal : ℕ) → ref_value made.graph row (ref_at made.answer signal) ≡ meaning row signal

refs-values : (made : Made (List Ref)) (meaning : List Bool → Values) (row : List Bool) (signals : List ℕ) → IsDrawn made meaning → map (ref_value made.graph row) (map (ref_at made.answer) signals) ≡ map (meaning row) signals
refs-values made meaning row [] is = refl
refs-values made meaning row (signal ∷ signals) is = λ i. is.value row signal i ∷ refs-values made meaning row signals is i

-- A table gives its target the table's value; the values of all others stay.
with_target-means : (made : Made (List Ref)) (table : Table) (meaning : List Bool → Values) → IsTable (length made.answer) table → IsDrawn made meaning → IsDrawn (with_target made table) (λ row. with_target_value table (meaning row))
with_target-means made table meaning fits is =
    let pins = map (ref_at made.answer) table.pins in
    let driven = with_table pins made.graph table in
    let rows : All (λ (cube : Cube). length cube.bits ≡ length pins) table.rows =
    All-weaker (λ (cube : Cube). length cube.bits ≡ length table.pins) (λ (cube : Cube). length cube.bits ≡ length pins) (λ cube e. e ∙ sym (length-map table.pins (ref_at made.answer))) table.rows fits.rows in
    let means : Means made.graph driven (λ row. table_value table (map (ref_value made.graph row) pins)) =
    with_table-means made.graph pins table is.formed (refs-there (length made.graph.nodes) made.answer table.pins is.there) rows in
    let is_there = IsRefThere (length driven.graph.nodes) in
    record {
      formed = means.formed;
      there = All-set is_there made.answer table.target driven.answer means.there (λ k d within. kept-there made.graph driven.graph (get_or made.answer k d) means.kept (is.there k d within));
      value = λ row signal.
          let own : ref_value driven.graph row driven.answer ≡ table_value table (map (meaning row) table.pins) =
          means.value row ∙ ap (table_value table) (refs-values made meaning row table.pins is) in
          let other : ref_value driven.graph row (ref_at made.answer signal) ≡ meaning row signal =
          graph_keeps_values made.graph driven.graph row (ref_at made.answer signal) means.kept (ref_at-there (length made.graph.nodes) made.answer signal is.there) ∙ is.value row signal in
          set-value driven.graph row made.answer signal table.target driven.answer (table_value table (map (meaning row) table.pins)) (meaning row signal) fits.target own other;
    }
  where
    set-value : (graph : Graph) (row : List Bool) (refs : List Ref) (signal target : ℕ) (x : Ref) (new old : Bool) → target < length refs → ref_value graph row x ≡ new → ref_value graph row (ref_at refs signal) ≡ old → ref_value graph row (ref_at (set refs target x) signal) ≡ cond (signal == target) new old
    set-value graph row refs signal target x new old within own other = by (signal == target) refl
      where
        by : (b : Bool) → b ≡ (signal == target) → ref_value graph row (ref_at (set refs target x) signal) ≡ cond b new old
        by true same =
            let one : signal ≡ target = eqb-true signal target (sym same) in
            ap (λ s. ref_value graph row (ref_at (set refs target x) s)) one ∙ ap (ref_value graph row) (get_or-set_same refs target x (Const false) within) ∙ own
        by false apart =
            ap (ref_value graph row) (get_or-set_other refs target signal x (Const false) (λ same. both_ways (signal == target) (sym apart) (eq-eqb signal target same))) ∙ other

pub length-with_target : (made : Made (List Ref)) (table : Table) → length (with_target made table).answer ≡ length made.answer
length-with_target made table = length-set made.answer table.target (with_table (map (ref_at made.answer) table.pins) made.graph table).answer

pub length-with_targets : (made : Made (List Ref)) (tables : List Table) → length (with_targets made tables).answer ≡ length made.answer
length-with_targets made [] = refl
length-with_targets made (table ∷ tables) = length-with_targets (with_target made table) tables ∙ length-with_target made table

with_targets-means : (signals : ℕ) (made : Made (List Ref)) (tables : List Table) (meaning : List Bool → Values) → length made.answer ≡ signals → All (IsTable signals) tables → IsDrawn made meaning → IsDrawn (with_targets made tables) (λ row. with_target_values tables (meaning row))
with_targets-means signals made [] meaning long fits is = is
with_targets-means signals made (table ∷ tables) meaning long fits is =
    let here : IsTable (length made.answer) table = subst (λ n. IsTable n table) (sym long) (All-head (IsTable signals) table tables fits) in
    with_targets-means signals (with_target made table) tables (λ row. with_target_value table (meaning row)) (length-with_target made table ∙ long) (All-tail (IsTable signals) table tables fits) (with_target-means made table meaning here is)

-- The inputs are the first nodes, and have the bits of the row; signals that nothing drives are false.
pub length-input_refs : (number : ℕ) (inputs : List ℕ) (refs : List Ref) → length (input_refs number inputs refs) ≡ length refs
length-input_refs number [] refs = refl
length-input_refs number (input ∷ inputs) refs = length-set (input_refs (number + 1) inputs refs) input (Node number) ∙ length-input_refs (number + 1) inputs refs

pub input_refs-there : (nodes number : ℕ) (inputs : List ℕ) (refs : List Ref) → number + length inputs ≤ nodes → All (IsRefThere nodes) refs → All (IsRefThere nodes) (input_refs number inputs refs)
input_refs-there nodes number [] refs few there = there
input_refs-there nodes number (input ∷ inputs) refs few there =
    let here : number < nodes = omega arith in
    All-set (IsRefThere nodes) (input_refs (number + 1) inputs refs) input (Node number) here (input_refs-there nodes (number + 1) inputs refs (omega arith) there)

no-bits : (inputs : List ℕ) (signal : ℕ) → false ≡ input_values inputs [] signal
no-bits [] signal = refl
no-bits (input ∷ inputs) signal = refl

input-value : (inputs number : ℕ) (row : List Bool) → inputs ≤ MAX_INPUTS → number < inputs → ref_value (input_graph inputs) row (Node number) ≡ get_or row number false
input-value inputs number row few within =
    value-at (input_graph inputs) row number (IsFormed-proper (input_graph inputs) (input-proper inputs few)) (omega (arith, length-inputs inputs))
    ∙ ap (value_of row (node_values row (input_graph inputs).nodes)) (input-at inputs number (Inp 0) within)

nothing-value : (graph : Graph) (row : List Bool) (signals signal : ℕ) → ref_value graph row (ref_at (replicate signals (Const false)) signal) ≡ false
nothing-value graph row signals signal =
    ⊎_elim {C = ref_value graph row (ref_at (replicate signals (Const false)) signal) ≡ false}
    (λ within. ap (ref_value graph row) (get_or-replicate signals signal (Const false) (Const false) within))
    (λ past. ap (ref_value graph row) (get_or_past (replicate signals (Const false)) signal (Const false) (omega (arith, length-replicate {A = Ref} signals (Const false)))))
    (cases_lt signal signals)

input_refs-value : (graph : Graph) (row : List Bool) (signals number : ℕ) (inputs : List ℕ) (signal : ℕ) → All (λ input. input < signals) inputs → ((k : ℕ) → k < number + length inputs → ref_value graph row (Node k) ≡ get_or row k false) →
    ref_value graph row (ref_at (input_refs number inputs (replicate signals (Const false))) signal) ≡ input_values inputs (drop number row) signal
input_refs-value graph row signals number [] signal named bits = nothing-value graph row signals signal
input_refs-value graph row signals number (input ∷ inputs) signal named bits =
    let refs = input_refs (number + 1) inputs (replicate signals (Const false)) in
    let long : length refs ≡ signals = length-input_refs (number + 1) inputs (replicate signals (Const false)) ∙ length-replicate {A = Ref} signals (Const false) in
    let within : input < length refs = subst (λ n. input < n) (sym long) (All-head (λ i. i < signals) input inputs named) in
    let own : ref_value graph row (Node number) ≡ get_or row number false = bits number (omega arith) in
    let rest : ref_value graph row (ref_at refs signal) ≡ input_values inputs (drop (number + 1) row) signal =
    input_refs-value graph row signals (number + 1) inputs signal (All-tail (λ i. i < signals) input inputs named) (λ k below. bits k (omega arith)) in
    ⊎_elim {C = ref_value graph row (ref_at (set refs input (Node number)) signal) ≡ input_values (input ∷ inputs) (drop number row) signal}
    (λ here. set-value refs input own rest within ∙ ap (λ bs. input_values (input ∷ inputs) bs signal) (sym (drop_more row number false here)))
    (λ past.
    let none : drop number row ≡ [] = drop_all number row past in
    let after : drop (number + 1) row ≡ [] = drop_all (number + 1) row (omega arith) in
    set-value refs input own rest within
    ∙ (λ i. cond (signal == input) (get_or_past row number false past i) (input_values inputs (after i) signal))
    ∙ ap (λ v. cond (signal == input) false v) (sym (no-bits inputs signal)) ∙ both-false (signal == input)
    ∙ no-bits (input ∷ inputs) signal ∙ ap (λ bs. input_values (input ∷ inputs) bs signal) (sym none))
    (cases_lt number (length row))
  where
    both-false : (b : Bool) → cond b false false ≡ false
    both-false true = refl
    both-false false = refl

    set-value : (refs : List Ref) (input : ℕ) {new old : Bool} → ref_value graph row (Node number) ≡ new → ref_value graph row (ref_at refs signal) ≡ old → input < length refs → ref_value graph row (ref_at (set refs input (Node number)) signal) ≡ cond (signal == input) new old
    set-value refs input {new} {old} own other within = by (signal == input) refl
      where
        by : (b : Bool) → b ≡ (signal == input) → ref_value graph row (ref_at (set refs input (Node number)) signal) ≡ cond b new old
        by true same =
            let one : signal ≡ input = eqb-true signal input (sym same) in
            ap (λ s. ref_value graph row (ref_at (set refs input (Node number)) s)) one ∙ ap (ref_value graph row) (get_or-set_same refs input (Node number) (Const false) within) ∙ own
        by false apart =
            ap (ref_value graph row) (get_or-set_other refs input signal (Node number) (Const false) (λ same. both_ways (signal == input) (sym apart) (eq-eqb signal input same))) ∙ other

with_inputs-means : (design : Design) → IsRegular design → IsDrawn (with_inputs design) (λ row. input_values design.inputs row)
with_inputs-means design regular =
    let inputs = length design.inputs in
    let graph = input_graph inputs in
    let long : length graph.nodes ≡ inputs = length-inputs inputs in
    record {
      formed = IsFormed-proper graph (input-proper inputs regular.inputs.few);
      there = input_refs-there (length graph.nodes) 0 design.inputs (replicate (length design.names) (Const false)) (omega arith) (All-replicate (IsRefThere (length graph.nodes)) (length design.names) (Const false) tt);
      value = λ row signal.
          input_refs-value graph row (length design.names) 0 design.inputs signal regular.inputs.named (λ k below. input-value inputs k row regular.inputs.few (omega arith))
          ∙ ap (λ bs. input_values design.inputs bs signal) (drop-none row);
    }
  where
    drop-none : (row : List Bool) → drop 0 row ≡ row
    drop-none [] = refl
    drop-none (bit ∷ row) = refl

-- The tables of an order are tables of the design.
tables_at-fit : (signals : ℕ) (tables : List Table) (places : List ℕ) → All (IsTable signals) tables → All (IsTable signals) (tables_at tables places)
tables_at-fit signals tables [] fit = All-nil (IsTable signals)
tables_at-fit signals tables (place ∷ places) fit = by (slice_get tables place) refl (slice_get_cases tables place).1 (tables_at-fit signals tables places fit)
  where
    by : (o : Option Table) → slice_get tables place ≡ o → ((table : Table) × (place < length tables) × (slice_get tables place ≡ Some table) × (get_or tables place table ≡ table)) ⊎ ((length tables ≤ place) × (slice_get tables place ≡ None)) → All (IsTable signals) (tables_at tables places) → All (IsTable signals) (cons_option o (tables_at tables places))
    by None e cases rest = rest
    by (Some table) e cases rest =
        ⊎_elim {C = All (IsTable signals) (table ∷ tables_at tables places)}
        (λ found.
        let here : Some found.0 ≡ Some table = sym found.2 ∙ e in
        let one : found.0 ≡ table = cc in
        All-cons (IsTable signals) table (tables_at tables places)
        (subst (IsTable signals) (found.3 ∙ one) (fit place found.0 found.1)) rest)
        (λ none. let here : None ≡ Some table = sym none.1 ∙ e in absurd cc)
        cases

drawn-means : (ordered : Ordered) → IsRegular ordered.design → IsDrawn (drawn ordered) (λ row. signal_value ordered row)
drawn-means ordered regular =
    let design = ordered.design in
    with_targets-means (length design.names) (with_inputs design) (tables_at design.tables ordered.order) (λ row. input_values design.inputs row)
    (length-input_refs 0 design.inputs (replicate (length design.names) (Const false)) ∙ length-replicate {A = Ref} (length design.names) (Const false))
    (tables_at-fit (length design.names) design.tables ordered.order regular.tables)
    (with_inputs-means design regular)

pub subject_has_values : SubjectHasValues
subject_has_values ordered row regular = refs-values (drawn ordered) (λ bits. signal_value ordered bits) row ordered.design.outputs (drawn-means ordered regular)

-- What the calls need: as many signals as names, each there, and the places of an order among the tables.
pub inputs-long : (design : Design) (refs : List Ref) → refs ≡ (with_inputs design).answer → length refs ≡ length design.names
inputs-long design refs is = ap length is ∙ length-input_refs 0 design.inputs (replicate (length design.names) (Const false)) ∙ length-replicate {A = Ref} (length design.names) (Const false)

pub inputs-there : (design : Design) (refs : List Ref) (graph : Graph) → refs ≡ (with_inputs design).answer → graph ≡ input_graph (length design.inputs) → All (IsRefThere (length graph.nodes)) refs
inputs-there design refs graph is own =
    let nodes = length graph.nodes in
    let long : nodes ≡ length design.inputs = ap (λ (g : Graph). length g.nodes) own ∙ length-inputs (length design.inputs) in
    subst (All (IsRefThere nodes)) (sym is) (input_refs-there nodes 0 design.inputs (replicate (length design.names) (Const false)) (omega arith) (All-replicate (IsRefThere nodes) (length design.names) (Const false) tt))

pub order-below : (design : Design) (order : List ℕ) → table_order design ≡ Ok order → All (λ place. place < length design.tables) order
order-below design order e =
    All-weaker (Contains order) (λ place. place < length design.tables)
    (λ place among. listed-below design order place (ordered-from_Ok design order e) (list_any-from_Contains nat_eq_equiv place order among))
    order (All-contains_itself order)
