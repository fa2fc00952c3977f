-- The text that spells a design is read as that design.
--
-- The lines of the text are lines of tokens, so they are read as such. Then the reader goes over them in order: each line adds
-- what it spells, and the names so far begin the names of the design. Tables follow by induction, each with its rows, where the
-- design so far has the tables before and the current table is the last of them.
use Rattle.std.proofs.Common.{◌≡◌, ◌<◌, ◌≤◌, ◌+◌, ◌-◌, ◌++◌, ◌∷◌, ◌==◌, ℕ, true, false, nat_lt, List, [], length, take, get_or, flat_map, All, Option, Some, None, Ok, codes, refl, sym, ap, subst, ◌∙◌, append_assoc, append-nil, arith}
use Rattle.std.specs.List.{list_any, IsDistinct}
use Rattle.std.specs.Option.{option_to_list}
use Rattle.std.specs.Str.{bytes_eq}
use Rattle.std.proofs.lemmas.Bool.Decides.{nat_tests}
use Rattle.std.proofs.lemmas.List.{length_push, length-map, map-append, take_at}
use Rattle.std.proofs.lemmas.List.Elements.{All-head, All-tail, All-nil, All-cons, All-append}
use Rattle.net_base.specs.Answers.{◌>>=◌}
use Rattle.blif_model.specs.declared.design.Table.{Table}
use Rattle.blif_model.specs.declared.design.Design.{Design}
use Rattle.blif_model.specs.declared.design.TheConstants.{MAX_TABLES, MAX_PINS}
use Rattle.blif_model.specs.Regular.{IsTable}
use Rattle.blif_read.specs.declared.port.Port.TheVariants.{Input, Output}
use Rattle.blif_read.specs.Signals.{is_long, with_names, signals_of}
use Rattle.blif_read.specs.State.{State, start, closed, design_so_far, table_of, with_table}
use Rattle.blif_read.specs.Reading.{reads, reads_lines, design_of}
use Rattle.blif_read.specs.Spelling.{names_of, line_signals, row_lines, table_lines, design_lines, text_of, signals_in_order, IsPlainName, StandFrom, IsSpellable, SpelledDesignsAreRead}
use Rattle.blif_read.proofs.LinesRead.{reads_lines-step, reads_lines-end}
use Rattle.blif_read.proofs.SpelledLines.{good_line, numbered, last-snoc, lines_in-text}
use Rattle.blif_read.proofs.SpelledNames.{Extends, extends_more, with_names-extends, with_names-append, with_names-distinct, signals_of-spelled, names-short, listing_fault-None}
use Rattle.blif_read.proofs.SpelledTokens.{design_lines-AreLines}
use Rattle.blif_read.proofs.SpelledSteps.{behind_model, bare, reads-model, reads-inputs, reads-outputs, reads-names, reads-end, table_rows_read}

-- the line of a table gives it, without rows
table_of-bare : (table : Table) → table_of table.line (line_signals table) ≡ bare table
table_of-bare table =
    let last = length (line_signals table) - 1 in
    let size : length table.pins ≡ last = omega (arith, length_push table.pins table.target) in
    let pins : take last (line_signals table) ≡ table.pins = take_at table.pins (table.target ∷ []) last size in
    let target : get_or (line_signals table) last 0 ≡ table.target = last-snoc table.pins table.target in
    rw (pins, target) refl

-- the state behind the end line
abbrev ended : Design → State
ended design = record { design = design; table = None; has_model = true; has_end = true }

abbrev end_line : List (List (List ℕ))
end_line = (codes ".end" ∷ []) ∷ []

module _ (spelled : Design) (distinct : IsDistinct bytes_eq spelled.names) (plain : All IsPlainName spelled.names) where
  -- the names behind the line of a table
  abbrev names_behind : List (List ℕ) → List Table → List (List ℕ)
  names_behind names tables = with_names (names_of spelled (flat_map line_signals tables)) names

  -- the design so far, behind a table's line
  abbrev design_behind : Design → Option Table → Table → Design
  design_behind design current table = record design { names = with_names (names_of spelled (line_signals table)) design.names; tables = design.tables ++ option_to_list current }

  names_line_read : (design : Design) (current : Option Table) (table : Table) → IsTable (length spelled.names) table → Extends spelled.names (with_names (names_of spelled (line_signals table)) design.names)
      → length (design.tables ++ option_to_list current) < MAX_TABLES → (number : ℕ) → table.line ≡ number → (lines : List (List (List ℕ)))
      → reads_lines (numbered number ((codes ".names" ∷ names_of spelled (line_signals table)) ∷ lines)) (behind_model design current) ≡ reads_lines (numbered (number + 1) lines) (behind_model (design_behind design current table) (Some (bare table)))
  names_line_read design current table is extends room number at lines =
      let Below = λ (signal : ℕ). signal < length spelled.names in
      let tokens = names_of spelled (line_signals table) in
      let below : All Below (line_signals table) = All-append Below table.pins (table.target ∷ []) is.pins (All-cons Below table.target [] is.target (All-nil Below)) in
      let long : length tokens ≡ length table.pins + 1 = length-map (line_signals table) (λ signal. get_or spelled.names signal []) ∙ length_push table.pins table.target in
      let free : (length (design.tables ++ option_to_list current) == MAX_TABLES) ≡ false = grind (arith, nat_tests) in
      let some : (length tokens == 0) ≡ false = grind (arith, nat_tests) in
      let few : nat_lt (MAX_PINS + 1) (length tokens) ≡ false = let most = is.few_pins in grind (arith, nat_tests) in
      let short : list_any is_long tokens ≡ false = names-short spelled.names distinct plain (line_signals table) below in
      let signals : signals_of tokens design.names ≡ line_signals table = signals_of-spelled spelled.names distinct design.names (line_signals table) below extends in
      let added : table_of number (signals_of tokens design.names) ≡ bare table = ap (table_of number) signals ∙ ap (λ n. table_of n (line_signals table)) (sym at) ∙ table_of-bare table in
      reads_lines-step (good_line number (codes ".names" ∷ tokens)) (numbered (number + 1) lines) (behind_model design current) (with_table (good_line number (codes ".names" ∷ tokens)) (closed (behind_model design current)))
      (reads-names number tokens design current free some few short)
      ∙ ap (λ table'. reads_lines (numbered (number + 1) lines) (behind_model (design_behind design current table) (Some table'))) added

  abbrev HasOutput : Table → Type 0
  HasOutput table = length table.rows ≡ 0 → table.on ≡ true

  -- the line of a table and its rows
  table_read : (design : Design) (current : Option Table) (table : Table) → IsTable (length spelled.names) table → HasOutput table → Extends spelled.names (with_names (names_of spelled (line_signals table)) design.names)
      → length (design.tables ++ option_to_list current) < MAX_TABLES → (number : ℕ) → table.line ≡ number → (lines : List (List (List ℕ)))
      → reads_lines (numbered number (table_lines spelled table ++ lines)) (behind_model design current) ≡ reads_lines (numbered (number + 1 + length table.rows) lines) (behind_model (design_behind design current table) (Some table))
  table_read design current table is on extends room number at lines =
      names_line_read design current table is extends room number at (row_lines table.on table.rows ++ lines)
      ∙ table_rows_read (design_behind design current table) table (number + 1) table.rows lines is.rows on

  tables_read : (tables : List Table) (design : Design) (current : Option Table) (number : ℕ) → All (IsTable (length spelled.names)) tables → All HasOutput tables → StandFrom number tables
      → Extends spelled.names (names_behind design.names tables) → length (design.tables ++ option_to_list current) + length tables ≤ MAX_TABLES
      → reads_lines (numbered number (flat_map (table_lines spelled) tables ++ end_line)) (behind_model design current)
      ≡ Ok (ended (record design { names = names_behind design.names tables; tables = (design.tables ++ option_to_list current) ++ tables }))
  tables_read [] design current number are on stand extends few =
      reads_lines-step (good_line number (codes ".end" ∷ [])) [] (behind_model design current) (record (closed (behind_model design current)) { has_end = true }) (reads-end number design current)
      ∙ reads_lines-end (record (closed (behind_model design current)) { has_end = true })
      ∙ ap (λ tables. Ok (ended (record design { tables = tables }))) (sym (append-nil (design.tables ++ option_to_list current)))
  tables_read (table ∷ tables) design current number are on stand extends few =
      let so_far = design.tables ++ option_to_list current in
      let next = design_behind design current table in
      let names : names_behind design.names (table ∷ tables) ≡ names_behind next.names tables =
      ap (λ tokens. with_names tokens design.names) (map-append (λ signal. get_or spelled.names signal []) (line_signals table) (flat_map line_signals tables))
      ∙ with_names-append (names_of spelled (line_signals table)) (names_of spelled (flat_map line_signals tables)) design.names in
      let later : Extends spelled.names (names_behind next.names tables) = subst (λ n. Extends spelled.names n) names extends in
      let here : Extends spelled.names next.names = extends_more spelled.names (names_behind next.names tables) next.names later (with_names-extends (names_of spelled (flat_map line_signals tables)) next.names) in
      let room : length so_far < MAX_TABLES = omega (arith, few) in
      let fewer : length (so_far ++ table ∷ []) + length tables ≤ MAX_TABLES = omega (arith, few, length_push so_far table) in
      let rest = flat_map (table_lines spelled) tables ++ end_line in
      ap (λ lines. reads_lines (numbered number lines) (behind_model design current)) (append_assoc (table_lines spelled table) (flat_map (table_lines spelled) tables) end_line)
      ∙ table_read design current table (All-head (IsTable (length spelled.names)) table tables are) (All-head HasOutput table tables on) here room number stand.0 rest
      ∙ tables_read tables next (Some table) (number + 1 + length table.rows) (All-tail (IsTable (length spelled.names)) table tables are) (All-tail HasOutput table tables on) stand.1 later fewer
      ∙ ap (λ n. Ok (ended (record design { names = n; tables = (so_far ++ table ∷ []) ++ tables }))) (sym names)
      ∙ ap (λ t. Ok (ended (record design { names = names_behind design.names (table ∷ tables); tables = t }))) (append_assoc so_far (table ∷ []) tables)

module _ (design : Design) (is : IsSpellable design) where
  abbrev others : List ℕ
  others = flat_map line_signals design.tables

  -- the names of the lines of inputs, of outputs and of tables
  abbrev input_names : List (List ℕ)
  input_names = names_of design design.inputs

  abbrev output_names : List (List ℕ)
  output_names = names_of design design.outputs

  abbrev other_names : List (List ℕ)
  other_names = names_of design others

  -- the names so far, behind the line of inputs and behind that of outputs
  abbrev behind_inputs : List (List ℕ)
  behind_inputs = with_names input_names []

  abbrev behind_outputs : List (List ℕ)
  behind_outputs = with_names output_names behind_inputs

  whole_names : design.names ≡ with_names other_names behind_outputs
  whole_names =
      let name = λ (signal : ℕ). get_or design.names signal [] in
      let parts : names_of design (signals_in_order design) ≡ input_names ++ (output_names ++ other_names) =
      map-append name design.inputs (design.outputs ++ others) ∙ ap (λ names. input_names ++ names) (map-append name design.outputs others) in
      is.numbered
      ∙ ap (λ names. with_names names []) parts
      ∙ with_names-append input_names (output_names ++ other_names) []
      ∙ with_names-append output_names other_names behind_inputs

  distinct : IsDistinct bytes_eq design.names
  distinct = subst (λ names. IsDistinct bytes_eq names) (sym is.numbered) (with_names-distinct (names_of design (signals_in_order design)))

  extends_tables : Extends design.names (with_names other_names behind_outputs)
  extends_tables = record { more = []; whole = whole_names ∙ sym (append-nil (with_names other_names behind_outputs)) }

  extends_outputs : Extends design.names behind_outputs
  extends_outputs = extends_more design.names (with_names other_names behind_outputs) behind_outputs extends_tables (with_names-extends other_names behind_outputs)

  extends_inputs : Extends design.names behind_inputs
  extends_inputs = extends_more design.names behind_outputs behind_inputs extends_outputs (with_names-extends output_names behind_inputs)

  -- the design so far
  abbrev so_far : List (List ℕ) → List ℕ → List ℕ → Design
  so_far names inputs outputs = record { name = design.name; names = names; inputs = inputs; outputs = outputs; tables = [] }

  model_read : reads (good_line 1 (codes ".model" ∷ design.name ∷ [])) start ≡ Ok (behind_model (so_far [] [] []) None)
  model_read = let few = is.model.short in reads-model 1 design.name (grind (arith, nat_tests))

  inputs_read : reads (good_line 2 (codes ".inputs" ∷ input_names)) (behind_model (so_far [] [] []) None) ≡ Ok (behind_model (so_far behind_inputs design.inputs []) None)
  inputs_read =
      let are = is.regular.inputs in
      reads-inputs 2 input_names (so_far [] [] []) None (listing_fault-None design.names distinct is.names Input [] [] design.inputs are.named extends_inputs are.distinct are.few)
      ∙ ap (λ signals. Ok (behind_model (so_far behind_inputs signals []) None)) (signals_of-spelled design.names distinct [] design.inputs are.named extends_inputs)

  outputs_read : reads (good_line 3 (codes ".outputs" ∷ output_names)) (behind_model (so_far behind_inputs design.inputs []) None) ≡ Ok (behind_model (so_far behind_outputs design.inputs design.outputs) None)
  outputs_read =
      let are = is.regular.outputs in
      reads-outputs 3 output_names (so_far behind_inputs design.inputs []) None (listing_fault-None design.names distinct is.names Output behind_inputs [] design.outputs are.named extends_outputs are.distinct are.few)
      ∙ ap (λ signals. Ok (behind_model (so_far behind_outputs design.inputs signals) None)) (signals_of-spelled design.names distinct behind_inputs design.outputs are.named extends_outputs)

  -- the lines behind the first, behind the second and behind the third
  abbrev table_part : List (List (List ℕ))
  table_part = flat_map (table_lines design) design.tables ++ end_line

  abbrev outputs_part : List (List (List ℕ))
  outputs_part = (codes ".outputs" ∷ output_names) ∷ table_part

  abbrev inputs_part : List (List (List ℕ))
  inputs_part = (codes ".inputs" ∷ input_names) ∷ outputs_part

  lines_read : reads_lines (numbered 1 (design_lines design)) start ≡ Ok (ended design)
  lines_read =
      reads_lines-step (good_line 1 (codes ".model" ∷ design.name ∷ [])) (numbered 2 inputs_part) start (behind_model (so_far [] [] []) None) model_read
      ∙ reads_lines-step (good_line 2 (codes ".inputs" ∷ input_names)) (numbered 3 outputs_part) (behind_model (so_far [] [] []) None) (behind_model (so_far behind_inputs design.inputs []) None) inputs_read
      ∙ reads_lines-step (good_line 3 (codes ".outputs" ∷ output_names)) (numbered 4 table_part) (behind_model (so_far behind_inputs design.inputs []) None) (behind_model (so_far behind_outputs design.inputs design.outputs) None) outputs_read
      ∙ tables_read design distinct is.names design.tables (so_far behind_outputs design.inputs design.outputs) None 4 is.regular.tables is.on is.lines extends_tables (omega (arith, is.regular.few_tables))
      ∙ ap (λ names. Ok (ended (record design { names = names }))) (sym whole_names)

  text_read : design_of (text_of design) ≡ Ok design
  unfolding design_of
  text_read =
      ap (λ lines. reads_lines lines start >>= λ state. Ok (design_so_far state)) (lines_in-text (design_lines design) (design_lines-AreLines design is))
      ∙ ap (λ read. read >>= λ state. Ok (design_so_far state)) lines_read
      ∙ ap (λ tables. Ok (record design { tables = tables })) (append-nil design.tables)

pub spelled_designs_are_read : SpelledDesignsAreRead
spelled_designs_are_read = text_read
