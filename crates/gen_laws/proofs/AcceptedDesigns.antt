-- The text of a design in order is accepted.
--
-- The names of the lines, in order of first appearance, number the design. Each name comes back from its number, so the text of
-- the numbered design is that of the named one, and as it keeps the limits, the text is read as it. The names of pins are those
-- of inputs and of targets before, and so are their numbers; so nothing refuses the order.
use Rattle.std.proofs.Common.{◌≡◌, ◌≤◌, ◌++◌, ◌∙◌, ℕ, true, List, [], ◌∷◌, length, map, flat_map, All, Ok, nat_eq, codes, sym, ap, subst, arith}
use Rattle.std.specs.List.{IsDistinct}
use Rattle.std.specs.Str.{bytes_eq}
use Rattle.std.proofs.lemmas.List.{length-map, map-append}
use Rattle.std.proofs.lemmas.List.Elements.{All-nil, All-append}
use Rattle.net_base.specs.Keys.{is_among}
use Rattle.blif_model.specs.declared.design.Design.{Design}
use Rattle.blif_model.specs.Order.{driven_signals, places_by_level, table_order}
use Rattle.blif_model.specs.Regular.{AreListed}
use Rattle.blif_read.specs.Signals.{with_names}
use Rattle.blif_read.specs.Reading.{design_of}
use Rattle.blif_read.specs.Spelling.{lines_text, names_of, text_of, signals_in_order, IsPlainName, IsSpellable, SpelledDesignsAreRead}
use Rattle.gen_laws.specs.Named.{NamedDesign, named_text, IsInOrder, DesignsInOrderAreAccepted}
use Rattle.gen_laws.proofs.AcceptedNames.{AreAmong, among-left, among-right, among-append, with_names-among, with_names-plain, number, numbers-back, numbers-within, distinct-numbers}
use Rattle.gen_laws.proofs.AcceptedTables.{named_signals, named_targets, targets-plain, names-plain, signals-plain, numbered_tables, signals-numbered, targets-numbered, length-numbered, stand-numbered, on-numbered, numbered-AreTables, targets-among, pins-numbered, follow-numbered, lines-numbered}
use Rattle.gen_laws.proofs.AcceptedOrders.{order-follows}

-- the names of the lines, in order
abbrev names_in_order : NamedDesign → List (List ℕ)
names_in_order design = design.inputs ++ (design.outputs ++ flat_map named_signals design.tables)

-- the names that are numbered
abbrev numbered_names : NamedDesign → List (List ℕ)
numbered_names design = with_names (names_in_order design) []

-- the design by numbers
abbrev numbered_design : NamedDesign → Design
numbered_design design = record {
  name = design.name;
  names = numbered_names design;
  inputs = map (number (numbered_names design)) design.inputs;
  outputs = map (number (numbered_names design)) design.outputs;
  tables = numbered_tables (numbered_names design) 4 design.tables;
}

module _ (design : NamedDesign) (is : IsInOrder design) where
  abbrev names : List (List ℕ)
  names = numbered_names design

  abbrev table_names : List (List ℕ)
  table_names = flat_map named_signals design.tables

  among : AreAmong names (names_in_order design)
  among = with_names-among (names_in_order design) []

  inputs_among : AreAmong names design.inputs
  inputs_among = among-left names design.inputs (design.outputs ++ table_names) among

  outputs_among : AreAmong names design.outputs
  outputs_among = among-left names design.outputs table_names (among-right names design.inputs (design.outputs ++ table_names) among)

  tables_among : AreAmong names table_names
  tables_among = among-right names design.outputs table_names (among-right names design.inputs (design.outputs ++ table_names) among)

  -- The names are plain.
  plain : All IsPlainName names
  plain =
      let driven = All-append IsPlainName design.inputs (named_targets design.tables) is.inputs (targets-plain design.tables is.tables) in
      let outputs = names-plain design.outputs (design.inputs ++ named_targets design.tables) driven is.driven_outputs in
      let tables = signals-plain design.inputs design.tables is.inputs is.tables is.order in
      with_names-plain (names_in_order design) []
      (All-append IsPlainName design.inputs (design.outputs ++ table_names) is.inputs (All-append IsPlainName design.outputs table_names outputs tables))
      (All-nil IsPlainName)

  -- The numbers are listed.
  listed : (xs : List (List ℕ)) (most : ℕ) → AreAmong names xs → IsDistinct bytes_eq xs → length xs ≤ most → AreListed (length names) most (map (number names) xs)
  listed xs most all distinct few = record {
    named = numbers-within names xs all;
    distinct = distinct-numbers names xs all distinct;
    few = omega (arith, length-map xs (number names));
  }

  -- The signals of the lines are the numbers of their names.
  signals : signals_in_order (numbered_design design) ≡ map (number names) (names_in_order design)
  signals =
      ap (λ xs. map (number names) design.inputs ++ (map (number names) design.outputs ++ xs)) (signals-numbered names 4 design.tables)
      ∙ ap (λ xs. map (number names) design.inputs ++ xs) (sym (map-append (number names) design.outputs table_names))
      ∙ sym (map-append (number names) design.inputs (design.outputs ++ table_names))

  spellable : IsSpellable (numbered_design design)
  spellable = record {
    regular = record {
      inputs = listed design.inputs _ inputs_among is.distinct_inputs is.few_inputs;
      outputs = listed design.outputs _ outputs_among is.distinct_outputs is.few_outputs;
      tables = numbered-AreTables names 4 design.tables is.tables tables_among;
      few_tables = omega (arith, length-numbered names 4 design.tables, is.few_tables);
    };
    model = is.name;
    names = plain;
    numbered = ap (λ tokens. with_names tokens []) (sym (ap (names_of (numbered_design design)) signals ∙ numbers-back names (names_in_order design) among));
    lines = stand-numbered names 4 design.tables;
    on = on-numbered names 4 design.tables is.tables;
  }

  -- The text is that of the named design.
  text : text_of (numbered_design design) ≡ named_text design
  text =
      let inputs = numbers-back names design.inputs inputs_among in
      let outputs = numbers-back names design.outputs outputs_among in
      let tables = lines-numbered (numbered_design design) 4 design.tables tables_among in
      ap lines_text
      (λ i. (codes ".model" ∷ design.name ∷ []) ∷ (codes ".inputs" ∷ inputs i) ∷ (codes ".outputs" ∷ outputs i) ∷ (tables i ++ (codes ".end" ∷ []) ∷ []))

  -- The tables have an order.
  ordered : table_order (numbered_design design) ≡ Ok (places_by_level (numbered_design design).tables)
  ordered =
      let targets = named_targets design.tables in
      let drivers : AreAmong names (design.inputs ++ targets) = among-append names design.inputs targets inputs_among (targets-among names design.tables tables_among) in
      let driven : map (number names) (design.inputs ++ targets) ≡ driven_signals (numbered_design design) =
      map-append (number names) design.inputs targets ∙ ap (λ xs. map (number names) design.inputs ++ xs) (sym (targets-numbered names 4 design.tables)) in
      order-follows (numbered_design design) (follow-numbered names design.inputs 4 design.tables inputs_among tables_among is.order)
      (λ output one.
      subst (λ xs. is_among nat_eq output xs ≡ true) driven
      (pins-numbered names design.outputs (design.inputs ++ targets) outputs_among drivers is.driven_outputs output one))

pub designs_in_order_are_accepted : SpelledDesignsAreRead → DesignsInOrderAreAccepted
designs_in_order_are_accepted read design is = record {
  design = numbered_design design;
  order = places_by_level (numbered_design design).tables;
  reads = ap design_of (sym (text design is)) ∙ read (numbered_design design) (spellable design is);
  ordered = ordered design is;
}
