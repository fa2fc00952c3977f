-- What the loops over literals, rows and tables keep: what is made so far, then what remains, is the whole.
use Rattle.std.proofs.Common.{◌≡◌, ◌<◌, ◌≤◌, ◌+◌, ◌∙◌, ℕ, List, ◌∷◌, length, get_or, drop, All, Option, sym, ap, subst, arith}
use Rattle.std.specs.List.{cons_option}
use Rattle.std.proofs.lemmas.List.{drop_more}
use Rattle.std.proofs.lemmas.Option.{slice_get-get_or}
use Rattle.net_base.specs.declared.graph.Ref.{Ref}
use Rattle.net_base.specs.declared.graph.Graph.{Graph}
use Rattle.net_base.specs.Graph.{IsRefThere}
use Rattle.blif_model.specs.declared.design.Bit.{Bit}
use Rattle.blif_model.specs.declared.design.Cube.{Cube}
use Rattle.blif_model.specs.declared.design.Table.{Table}
use Rattle.blif_model.specs.Values.{tables_at}
use Rattle.subject_graph.specs.declared.fault.GraphFault.{GraphFault}
use Rattle.subject_graph.specs.Answers.{Refuses}
use Rattle.subject_graph.specs.Steps.{Made}
use Rattle.subject_graph.specs.Tables.{and_then, with_literal, with_literals, with_row, with_rows, with_target, with_targets}
use Rattle.subject_graph.proofs.Growth.{Refuses-more, literals-grow, rows-grow, targets-grow}
use Rattle.subject_graph.proofs.Drawing.{length-with_target}

-- literals, from the one at a place on
pub record LiteralsLeft (old : Graph) (before : List Ref) (bits : List Bit) (pins : List Ref) (graph : Graph) (literals : List Ref) (place : ℕ) : Type 0 where
  pub whole : with_literals (record { graph = graph; answer = literals }) (drop place bits) (drop place pins) ≡ with_literals (record { graph = old; answer = before }) bits pins
  pub there : All (IsRefThere (length graph.nodes)) literals
  pub grows : length old.nodes ≤ length graph.nodes

-- rows
pub record RowsLeft (old : Graph) (before : List Ref) (pins : List Ref) (rows : List Cube) (graph : Graph) (signals : List Ref) (place : ℕ) : Type 0 where
  pub whole : with_rows pins (record { graph = graph; answer = signals }) (drop place rows) ≡ with_rows pins (record { graph = old; answer = before }) rows
  pub there : All (IsRefThere (length graph.nodes)) signals
  pub grows : length old.nodes ≤ length graph.nodes

-- tables
pub record TablesLeft (old : Graph) (before : List Ref) (tables : List Table) (order : List ℕ) (graph : Graph) (refs : List Ref) (place : ℕ) : Type 0 where
  pub whole : with_targets (record { graph = graph; answer = refs }) (tables_at tables (drop place order)) ≡ with_targets (record { graph = old; answer = before }) (tables_at tables order)
  pub there : All (IsRefThere (length graph.nodes)) refs
  pub long : length refs ≡ length before

-- Where the next literal is refused, the whole is,
pub literals-refused : (old : Graph) (before : List Ref) (bits : List Bit) (pins : List Ref) (graph : Graph) (literals : List Ref) (place : ℕ) (bit : Bit) (pin : Ref) (fault : GraphFault) → LiteralsLeft old before bits pins graph literals place →
    place < length bits → length bits ≡ length pins → bit ≡ get_or bits place bit → pin ≡ get_or pins place pin →
    Refuses fault (with_literal (record { graph = graph; answer = literals }) bit pin).graph → Refuses fault (with_literals (record { graph = old; answer = before }) bits pins).graph
literals-refused old before bits pins graph literals place bit pin fault left within fit is_bit is_pin refuses =
    let made : Made (List Ref) = record { graph = graph; answer = literals } in
    let next = with_literal made bit pin in
    let front : drop place bits ≡ bit ∷ drop (place + 1) bits = drop_more bits place bit within ∙ ap (λ b. b ∷ drop (place + 1) bits) (sym is_bit) in
    let pin_front : drop place pins ≡ pin ∷ drop (place + 1) pins = drop_more pins place pin (omega arith) ∙ ap (λ (p : Ref). p ∷ drop (place + 1) pins) (sym is_pin) in
    subst (λ (m : Made (List Ref)). Refuses fault m.graph) ((λ i. with_literals made (sym front i) (sym pin_front i)) ∙ left.whole)
    (Refuses-more fault next.graph (with_literals next (drop (place + 1) bits) (drop (place + 1) pins)).graph (literals-grow next (drop (place + 1) bits) (drop (place + 1) pins)) refuses)

-- and so with rows,
pub rows-refused : (old : Graph) (before : List Ref) (pins : List Ref) (rows : List Cube) (graph : Graph) (signals : List Ref) (place : ℕ) (row : Cube) (fault : GraphFault) → RowsLeft old before pins rows graph signals place →
    place < length rows → row ≡ get_or rows place row →
    Refuses fault (with_row pins graph row).graph → Refuses fault (with_rows pins (record { graph = old; answer = before }) rows).graph
rows-refused old before pins rows graph signals place row fault left within is refuses =
    let made : Made (List Ref) = record { graph = graph; answer = signals } in
    let next = and_then signals (with_row pins graph row) in
    let front : drop place rows ≡ row ∷ drop (place + 1) rows = drop_more rows place row within ∙ ap (λ (r : Cube). r ∷ drop (place + 1) rows) (sym is) in
    subst (λ (m : Made (List Ref)). Refuses fault m.graph) ((λ i. with_rows pins made (sym front i)) ∙ left.whole)
    (Refuses-more fault next.graph (with_rows pins next (drop (place + 1) rows)).graph (rows-grow pins next (drop (place + 1) rows)) refuses)

-- and with tables, which else are drawn one after the other.
tables-front : (tables : List Table) (order : List ℕ) (place at : ℕ) (table : Table) → place < length order → at ≡ get_or order place at → at < length tables → table ≡ get_or tables at table → tables_at tables (drop place order) ≡ table ∷ tables_at tables (drop (place + 1) order)
tables-front tables order place at table within is below own =
    ap (tables_at tables) (drop_more order place at within ∙ ap (λ a. a ∷ drop (place + 1) order) (sym is))
    ∙ ap (λ (o : Option Table). cons_option o (tables_at tables (drop (place + 1) order))) (slice_get-get_or tables at table below)
    ∙ ap (λ (t : Table). t ∷ tables_at tables (drop (place + 1) order)) (sym own)

module _ (old : Graph) (before : List Ref) (tables : List Table) (order : List ℕ) (graph : Graph) (refs : List Ref) (place at : ℕ) (table : Table) (left : TablesLeft old before tables order graph refs place) (within : place < length order) (is : at ≡ get_or order place at) (below : at < length tables) (own : table ≡ get_or tables at table) where
  pub tables-refused : (fault : GraphFault) → Refuses fault (with_target (record { graph = graph; answer = refs }) table).graph → Refuses fault (with_targets (record { graph = old; answer = before }) (tables_at tables order)).graph
  tables-refused fault refuses =
      let made : Made (List Ref) = record { graph = graph; answer = refs } in
      let rest = tables_at tables (drop (place + 1) order) in
      subst (λ (m : Made (List Ref)). Refuses fault m.graph) (ap (with_targets made) (sym (tables-front tables order place at table within is below own)) ∙ left.whole)
      (Refuses-more fault (with_target made table).graph (with_targets (with_target made table) rest).graph (targets-grow (with_target made table) rest) refuses)

  pub tables-next : (new : Graph) (now : List Ref) → with_target (record { graph = graph; answer = refs }) table ≡ record { graph = new; answer = now } → All (IsRefThere (length new.nodes)) now → TablesLeft old before tables order new now (place + 1)
  tables-next new now made there = record {
    whole =
        ap (λ (m : Made (List Ref)). with_targets m (tables_at tables (drop (place + 1) order))) (sym made)
        ∙ ap (with_targets (record { graph = graph; answer = refs })) (sym (tables-front tables order place at table within is below own)) ∙ left.whole;
    there = there;
    long = ap (λ (m : Made (List Ref)). length m.answer) (sym made) ∙ length-with_target (record { graph = graph; answer = refs }) table ∙ left.long;
  }
