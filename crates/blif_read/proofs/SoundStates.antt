-- Each line without a fault keeps a state sound, and a sound state has a regular design. Where the table of faults has none,
-- each of its conditions fails (`no_fault`); so a signal that is listed is new and has room, a table has a target and few pins,
-- and a row has a bit for each pin. Names only grow, so what was below their number stays below it. A token adds one name at
-- most: on a line of inputs or outputs it is one more of these, and a table has 257 tokens at most. So the names are counted by
-- inputs, outputs and tables, and stay far below 2^31, which `NameTable` asks for.
use Rattle.std.proofs.Common.{◌≡◌, ◌<◌, ◌≤◌, ◌+◌, ◌-◌, ◌*◌, ◌++◌, ◌∙◌, ◌==◌, ℕ, Bool, true, false, not, cond, nat_eq, nat_lt, List, [], ◌∷◌, length, map, take, All, Option, Some, None, Result, Ok, refl, sym, ap, subst, append_assoc, append-nil, length-append, length-take, arith, if◌then◌else◌}
use Rattle.std.specs.List.{position_or_len, AllByRecursion, IsDistinct}
use Rattle.std.specs.Option.{option_to_list, option_map}
use Rattle.std.specs.Str.{bytes_eq}
use Rattle.std.proofs.lemmas.Bool.Decides.{nat_tests}
use Rattle.std.proofs.lemmas.List.{length_push, length-map}
use Rattle.std.proofs.lemmas.List.Elements.{All-nil, All-cons, All-push, All-pop, All-take, All-weaker, All-get_or}
use Rattle.std.proofs.lemmas.Map.Keys.{IsDistinct-push}
use Rattle.std.proofs.lemmas.Option.{none-some}
use Rattle.std.proofs.lemmas.Slice.Eq.{bytes_eq-Decides}
use Rattle.std.specs.Cmp.{nat_eq_equiv}
use Rattle.net_base.specs.Keys.{is_among}
use Rattle.net_base.proofs.CallerLemmas.{bind-Ok, position-found}
use Rattle.blif_model.specs.declared.design.Table.{Table}
use Rattle.blif_model.specs.declared.design.Cube.{Cube}
use Rattle.blif_model.specs.declared.design.TheConstants.{MAX_INPUTS, MAX_OUTPUTS, MAX_TABLES, MAX_PINS}
use Rattle.blif_model.specs.Names.{number_of, with_name}
use Rattle.blif_model.specs.Regular.{AreListed, IsTable, IsRegular}
use Rattle.blif_read.specs.declared.fault.BlifFault.{BlifFault}
use Rattle.blif_read.specs.declared.fault.BlifKind.{BlifKind}
use Rattle.blif_read.specs.declared.fault.BlifKind.TheVariants as kind
use Rattle.blif_read.specs.declared.port.Port.{Port}
use Rattle.blif_read.specs.declared.port.Port.TheVariants.{Input, Output}
use Rattle.blif_read.specs.declared.word.Word.{Word}
use Rattle.blif_read.specs.declared.word.Word.TheVariants.{Model, Inputs, Outputs, Names, End, Unsupported, Unknown, Row}
use Rattle.blif_read.specs.Words.{Line, lines_in, first_token, further_tokens, word_of}
use Rattle.blif_read.specs.Rows.{is_row_shape, row_lengths, row_bits, row_of, with_row, bit_of}
use Rattle.blif_read.specs.Signals.{is_long, with_names, signals_of}
use Rattle.blif_read.specs.State.{State, start, closed, tables_so_far, design_so_far, table_of, with_inputs, with_outputs, with_table, with_line}
use Rattle.blif_read.specs.Faults.{first_of, ◌when◌, duplicate_of, too_many_of, most_of, token_fault, listing_fault, is_second_model, has_long_model, inputs_fault, outputs_fault, is_table_too_many, has_no_target, has_too_many_pins, has_long_signal, is_unsupported, is_unknown, is_outside_table, has_other_shape, has_other_char, has_other_output, fault_of}
use Rattle.blif_read.specs.Reading.{unless, at_line, reads, reads_lines, design_of}
use Rattle.blif_read.specs.Laws.{DesignsAreRegular}
use Rattle.blif_read.specs.Readers.{IsSound}
use Rattle.blif_read.proofs.TokenSteps.{length-with_name, length-signals_of}

-- What no fault says: no condition of the list holds.
all_none : (faults : List (Option BlifKind)) → first_of faults ≡ None → AllByRecursion (λ fault. fault ≡ None) faults
all_none [] none = tt
all_none (None ∷ faults) none = (refl, all_none faults none)
all_none (Some kind ∷ faults) none = absurd (none-some kind (sym none))

fails : (kind : BlifKind) (holds : Bool) → (kind when holds) ≡ None → holds ≡ false
fails kind true none = absurd (none-some kind (sym none))
fails kind false none = refl

record HasNoFault (word : Word) (line : Line) (state : State) : Type 0 where
  inputs : inputs_fault word line state ≡ None
  outputs : outputs_fault word line state ≡ None
  room : is_table_too_many word state ≡ false
  target : has_no_target word line ≡ false
  few_pins : has_too_many_pins word line ≡ false
  supported : is_unsupported word ≡ false
  known : is_unknown word ≡ false
  shape : has_other_shape word line state ≡ false

no_fault : (word : Word) (line : Line) (state : State) → fault_of word line state ≡ None → HasNoFault word line state
unfolding fault_of
no_fault word line state none =
    let no = all_none (
    kind.BadByte when line.bad
    ∷ kind.SecondModel when is_second_model word state
    ∷ kind.AfterEnd when state.has_end
    ∷ kind.NameTooLong when has_long_model word line
    ∷ inputs_fault word line state
    ∷ outputs_fault word line state
    ∷ kind.TooManyTables when is_table_too_many word state
    ∷ kind.NoTarget when has_no_target word line
    ∷ kind.TooManyPins when has_too_many_pins word line
    ∷ kind.NameTooLong when has_long_signal word line
    ∷ kind.Unsupported (first_token line.tokens) when is_unsupported word
    ∷ kind.UnknownWord when is_unknown word
    ∷ kind.RowOutsideTable when is_outside_table word state
    ∷ kind.RowShape when has_other_shape word line state
    ∷ kind.RowChar when has_other_char word line
    ∷ kind.MixedOutput when has_other_output word line state
    ∷ []
    ) none in
    record {
      inputs = no.1.1.1.1.0;
      outputs = no.1.1.1.1.1.0;
      room = fails kind.TooManyTables (is_table_too_many word state) no.1.1.1.1.1.1.0;
      target = fails kind.NoTarget (has_no_target word line) no.1.1.1.1.1.1.1.0;
      few_pins = fails kind.TooManyPins (has_too_many_pins word line) no.1.1.1.1.1.1.1.1.0;
      supported = fails (kind.Unsupported (first_token line.tokens)) (is_unsupported word) no.1.1.1.1.1.1.1.1.1.1.0;
      known = fails kind.UnknownWord (is_unknown word) no.1.1.1.1.1.1.1.1.1.1.1.0;
      shape = fails kind.RowShape (has_other_shape word line state) no.1.1.1.1.1.1.1.1.1.1.1.1.1.0;
    }

no_names : IsDistinct nat_eq []
unfolding IsDistinct
no_names = tt

-- more names
longer : (name : List ℕ) (names : List (List ℕ)) → length names ≤ length (with_name name names)
longer name names = by (is_among bytes_eq name names)
  where
    by : (b : Bool) → length names ≤ length (if b then names else names ++ name ∷ [])
    by true = omega arith
    by false = omega (arith, length_push names name)

all_longer : (tokens names : List (List ℕ)) → length names ≤ length (with_names tokens names)
all_longer [] names = omega arith
all_longer (token ∷ tokens) names = omega (arith, longer token names, all_longer tokens (with_name token names))

few_more : (tokens names : List (List ℕ)) → length (with_names tokens names) ≤ length names + length tokens
few_more [] names = omega arith
few_more (token ∷ tokens) names = omega (arith, length-with_name token names, few_more tokens (with_name token names))

-- a number is that of a name
within : {X : Type 0} (test : X → Bool) (xs : List X) → position_or_len test xs ≤ length xs
within test [] = omega arith
within {X} test (x ∷ xs) = by (test x) (within test xs)
  where
    by : (b : Bool) → position_or_len test xs ≤ length xs → cond (not b) (1 + position_or_len test xs) 0 ≤ length (x ∷ xs)
    by true rest = omega arith
    by false rest = omega (arith, rest)

number-below : (name : List ℕ) (names : List (List ℕ)) → number_of name names < length (with_name name names)
number-below name names = by (is_among bytes_eq name names) refl
  where
    by : (b : Bool) → is_among bytes_eq name names ≡ b → number_of name names < length (if b then names else names ++ name ∷ [])
    by true e = position-found (bytes_eq name) names e
    by false e = omega (arith, within (bytes_eq name) names, length_push names name)

weaker : (n m : ℕ) (signals : List ℕ) → n ≤ m → All (λ signal. signal < n) signals → All (λ signal. signal < m) signals
weaker n m signals le all = All-weaker (λ signal. signal < n) (λ signal. signal < m) (λ signal below. omega arith) signals all

signals-below : (tokens names : List (List ℕ)) → All (λ signal. signal < length (with_names tokens names)) (signals_of tokens names)
signals-below [] names = All-nil (λ signal. signal < length names)
signals-below (token ∷ tokens) names =
    let next = with_name token names in
    let bound : number_of token names < length (with_names tokens next) = omega (arith, number-below token names, all_longer tokens next) in
    All-cons (λ signal. signal < length (with_names tokens next)) (number_of token names) (signals_of tokens next) bound (signals-below tokens next)

listed_longer : (n m most : ℕ) (signals : List ℕ) → n ≤ m → AreListed n most signals → AreListed m most signals
listed_longer n m most signals le are = record { named = weaker n m signals le are.named; distinct = are.distinct; few = are.few }

table_longer : (n m : ℕ) (table : Table) → n ≤ m → IsTable n table → IsTable m table
table_longer n m table le is = record { target = omega (arith, is.target); pins = weaker n m table.pins le is.pins; few_pins = is.few_pins; rows = is.rows }

tables_longer : (n m : ℕ) (tables : List Table) → n ≤ m → All (IsTable n) tables → All (IsTable m) tables
tables_longer n m tables le all = All-weaker (IsTable n) (IsTable m) (λ table is. table_longer n m table le is) tables all

-- One more signal is listed.
push_listed : (n m most signal : ℕ) (listed : List ℕ) → n ≤ m → signal < m → is_among nat_eq signal listed ≡ false → (length listed == most) ≡ false → AreListed n most listed → AreListed m most (listed ++ signal ∷ [])
push_listed n m most signal listed le below absent room are = record {
  named = All-push (λ s. s < m) listed signal (weaker n m listed le are.named) below;
  distinct = IsDistinct-push nat_eq_equiv listed signal are.distinct absent;
  few = let few = are.few in let size = length_push listed signal in grind (arith, nat_tests);
}

listing_keeps : (port : Port) (tokens names : List (List ℕ)) (listed : List ℕ) → listing_fault port names listed tokens ≡ None → AreListed (length names) (most_of port) listed
    → AreListed (length (with_names tokens names)) (most_of port) (listed ++ signals_of tokens names)
listing_keeps port [] names listed none are = rw (append-nil listed) are
listing_keeps port (token ∷ tokens) names listed none are =
    let next = with_name token names in
    let signal = number_of token names in
    let others = listing_fault port next (listed ++ signal ∷ []) tokens in
    let both = all_none (token_fault port names listed token ∷ others ∷ []) none in
    let here = all_none (kind.NameTooLong when is_long token ∷ duplicate_of port when is_among nat_eq signal listed ∷ too_many_of port when (length listed == most_of port) ∷ []) both.0 in
    let more : AreListed (length next) (most_of port) (listed ++ signal ∷ []) =
    push_listed (length names) (length next) (most_of port) signal listed (longer token names) (number-below token names) (fails (duplicate_of port) (is_among nat_eq signal listed) here.1.0) (fails (too_many_of port) (length listed == most_of port) here.1.1.0) are in
    let all = listing_keeps port tokens next (listed ++ signal ∷ []) both.1.0 more in
    subst (λ signals. AreListed (length (with_names tokens next)) (most_of port) signals) (append_assoc listed (signal ∷ []) (signals_of tokens next)) all

-- a state whose current table is ended
closed_is_sound : (state : State) → IsSound state → IsSound (closed state)
closed_is_sound state sound =
    let same : tables_so_far (closed state) ≡ tables_so_far state = append-nil (tables_so_far state) in
    record {
      inputs = sound.inputs;
      outputs = sound.outputs;
      tables = rw same sound.tables;
      few_tables = rw same sound.few_tables;
      few_names = rw same sound.few_names;
    }

module _ (line : Line) (state : State) (sound : IsSound state) where
  abbrev further : List (List ℕ)
  further = further_tokens line.tokens

  abbrev known : List (List ℕ)
  known = state.design.names

  more : length known ≤ length (with_names further known)
  more = all_longer further known

  inputs_keep : listing_fault Input known state.design.inputs further ≡ None → IsSound (with_inputs line state)
  inputs_keep none = record {
    inputs = listing_keeps Input further known state.design.inputs none sound.inputs;
    outputs = listed_longer (length known) (length (with_names further known)) MAX_OUTPUTS state.design.outputs more sound.outputs;
    tables = tables_longer (length known) (length (with_names further known)) (tables_so_far state) more sound.tables;
    few_tables = sound.few_tables;
    few_names = omega (arith, sound.few_names, few_more further known, length-append state.design.inputs (signals_of further known), length-signals_of further known);
  }

  outputs_keep : listing_fault Output known state.design.outputs further ≡ None → IsSound (with_outputs line state)
  outputs_keep none = record {
    inputs = listed_longer (length known) (length (with_names further known)) MAX_INPUTS state.design.inputs more sound.inputs;
    outputs = listing_keeps Output further known state.design.outputs none sound.outputs;
    tables = tables_longer (length known) (length (with_names further known)) (tables_so_far state) more sound.tables;
    few_tables = sound.few_tables;
    few_names = omega (arith, sound.few_names, few_more further known, length-append state.design.outputs (signals_of further known), length-signals_of further known);
  }

  made_is_table : (length further == 0) ≡ false → nat_lt (MAX_PINS + 1) (length further) ≡ false → IsTable (length (with_names further known)) (table_of line.number (signals_of further known))
  made_is_table some few =
      let signals = signals_of further known in
      let size : length signals ≡ length further = length-signals_of further known in
      let at_least : 0 < length further = grind (arith, nat_tests) in
      let at_most : length further ≤ MAX_PINS + 1 = grind (arith, nat_tests) in
      let front = length-take (length signals - 1) signals in
      let below = signals-below further known in
      record {
        target = All-get_or (λ signal. signal < length (with_names further known)) signals (length signals - 1) 0 (omega arith) below;
        pins = All-take (λ signal. signal < length (with_names further known)) (length signals - 1) signals below;
        few_pins = omega arith;
        rows = All-nil (λ (row : Cube). length row.bits ≡ length (take (length signals - 1) signals));
      }

  table_keeps : state.table ≡ None → (length (tables_so_far state) == MAX_TABLES) ≡ false → (length further == 0) ≡ false → nat_lt (MAX_PINS + 1) (length further) ≡ false → IsSound (with_table line state)
  table_keeps none room some few =
      let table = table_of line.number (signals_of further known) in
      let same : state.design.tables ≡ tables_so_far state = sym (append-nil state.design.tables) ∙ ap (λ o. state.design.tables ++ option_to_list o) (sym none) in
      let before : All (IsTable (length (with_names further known))) state.design.tables = rw same (tables_longer (length known) (length (with_names further known)) (tables_so_far state) more sound.tables) in
      let size : length (state.design.tables ++ table ∷ []) ≡ length state.design.tables + 1 = length_push state.design.tables table in
      let count : length state.design.tables ≡ length (tables_so_far state) = ap length same in
      let tables_few = sound.few_tables in
      let at_most : length further ≤ MAX_PINS + 1 = grind (arith, nat_tests) in
      let free : length state.design.tables + 1 ≤ MAX_TABLES = grind (arith, nat_tests) in
      record {
        inputs = listed_longer (length known) (length (with_names further known)) MAX_INPUTS state.design.inputs more sound.inputs;
        outputs = listed_longer (length known) (length (with_names further known)) MAX_OUTPUTS state.design.outputs more sound.outputs;
        tables = All-push (IsTable (length (with_names further known))) state.design.tables table before (made_is_table some few);
        few_tables = omega arith;
        few_names = omega (arith, sound.few_names, few_more further known);
      }

-- a row of the right shape has a bit for each pin
shape_by : (pins : ℕ) (tokens : List (List ℕ)) (none : Bool) → (pins == 0) ≡ none → map length tokens ≡ (if none then 1 ∷ [] else pins ∷ (1 ∷ [])) → length (row_bits tokens) ≡ pins
shape_by pins [] true e same = cc
shape_by pins [] false e same = cc
shape_by pins (output ∷ []) true e same = grind (arith, nat_tests)
shape_by pins (output ∷ []) false e same = cc
shape_by pins (bits ∷ (output ∷ more)) true e same = cc
shape_by pins (bits ∷ (output ∷ more)) false e same = cc

bits_of_shape : (pins : ℕ) (tokens : List (List ℕ)) → not (is_row_shape pins tokens) ≡ false → length (row_of tokens).bits ≡ pins
bits_of_shape pins tokens is =
    length-map (row_bits tokens) bit_of
    ∙ shape_by pins tokens (pins == 0) refl ((bytes_eq-Decides (map length tokens) (row_lengths pins)).0 (by (is_row_shape pins tokens) is))
  where
    by : (b : Bool) → not b ≡ false → b ≡ true
    by true e = refl
    by false e = cc

row_is : (names : ℕ) (tokens : List (List ℕ)) (table : Table) → not (is_row_shape (length table.pins) tokens) ≡ false → IsTable names table → IsTable names (with_row tokens table)
row_is names tokens table shape is = record {
  target = is.target;
  pins = is.pins;
  few_pins = is.few_pins;
  rows = All-push (λ (row : Cube). length row.bits ≡ length table.pins) table.rows (row_of tokens) is.rows (bits_of_shape (length table.pins) tokens shape);
}

row_keeps : (line : Line) (state : State) → has_other_shape Row line state ≡ false → IsSound state → IsSound (record state { table = option_map (with_row line.tokens) state.table })
row_keeps line state shape sound = by state.table shape sound.tables sound.few_tables sound.few_names
  where
    by : (table : Option Table) → has_other_shape Row line (record state { table = table }) ≡ false → All (IsTable (length state.design.names)) (state.design.tables ++ option_to_list table)
        → length (state.design.tables ++ option_to_list table) ≤ MAX_TABLES
        → length state.design.names ≤ length state.design.inputs + length state.design.outputs + (MAX_PINS + 1) * length (state.design.tables ++ option_to_list table)
        → IsSound (record state { table = option_map (with_row line.tokens) table })
    by None shape tables few_tables few_names = record { inputs = sound.inputs; outputs = sound.outputs; tables = tables; few_tables = few_tables; few_names = few_names }
    by (Some table) shape tables few_tables few_names =
        let parts = All-pop (IsTable (length state.design.names)) (state.design.tables ++ table ∷ []) state.design.tables (Some table) refl tables in
        let same : length (state.design.tables ++ with_row line.tokens table ∷ []) ≡ length (state.design.tables ++ table ∷ []) = length_push state.design.tables (with_row line.tokens table) ∙ sym (length_push state.design.tables table) in
        record {
          inputs = sound.inputs;
          outputs = sound.outputs;
          tables = All-push (IsTable (length state.design.names)) state.design.tables (with_row line.tokens table) parts.0 (row_is (length state.design.names) line.tokens table shape parts.1);
          few_tables = rw same few_tables;
          few_names = rw same few_names;
        }

-- Each word keeps a state sound.
word_keeps : (word : Word) (line : Line) (state : State) → HasNoFault word line state → IsSound state → IsSound (with_line word line state)
unfolding with_line
word_keeps Model line state fit sound =
    let ended = closed_is_sound state sound in
    record { inputs = ended.inputs; outputs = ended.outputs; tables = ended.tables; few_tables = ended.few_tables; few_names = ended.few_names }
word_keeps Inputs line state fit sound = inputs_keep line (closed state) (closed_is_sound state sound) fit.inputs
word_keeps Outputs line state fit sound = outputs_keep line (closed state) (closed_is_sound state sound) fit.outputs
word_keeps Names line state fit sound =
    let same : tables_so_far (closed state) ≡ tables_so_far state = append-nil (tables_so_far state) in
    table_keeps line (closed state) (closed_is_sound state sound) refl (rw same fit.room) fit.target fit.few_pins
word_keeps End line state fit sound =
    let ended = closed_is_sound state sound in
    record { inputs = ended.inputs; outputs = ended.outputs; tables = ended.tables; few_tables = ended.few_tables; few_names = ended.few_names }
word_keeps Unsupported line state fit sound = sound
word_keeps Unknown line state fit sound = sound
word_keeps Row line state fit sound = row_keeps line state fit.shape sound

same_Ok : {A : Type 0} (a b : A) (read : Result A BlifFault) → read ≡ Ok a → read ≡ Ok b → a ≡ b
same_Ok a b read is so = cc

-- a line that is read has no fault, and adds what its word says
read_by : (number : ℕ) (fault : Option BlifKind) (state next : State) → at_line number (unless fault state) ≡ Ok next → (fault ≡ None) × (state ≡ next)
read_by number None state next is = (refl, cc)
read_by number (Some kind) state next is = cc

pub reads-keeps : (line : Line) (state next : State) → reads line state ≡ Ok next → IsSound state → IsSound next
unfolding reads
reads-keeps line state next is sound =
    let word = word_of (first_token line.tokens) in
    let read = read_by line.number (fault_of word line state) (with_line word line state) next is in
    subst (λ s. IsSound s) read.1 (word_keeps word line state (no_fault word line state read.0) sound)

-- Before the first line a state is sound.
pub start-is_sound : IsSound start
start-is_sound =
    let none : (most : ℕ) → AreListed 0 most [] = λ most. record { named = All-nil (λ signal. signal < 0); distinct = no_names; few = omega arith } in
    record { inputs = none MAX_INPUTS; outputs = none MAX_OUTPUTS; tables = All-nil (IsTable 0); few_tables = omega arith; few_names = omega arith }

-- The design of a sound state is regular.
pub sound-is_regular : (state : State) → IsSound state → IsRegular (design_so_far state)
sound-is_regular state sound = record { inputs = sound.inputs; outputs = sound.outputs; tables = sound.tables; few_tables = sound.few_tables }

-- The same of lines in order, and so of a text.
lines_keep : (lines : List Line) (state last : State) → reads_lines lines state ≡ Ok last → IsSound state → IsSound last
unfolding reads_lines
lines_keep [] state last is sound = subst (λ s. IsSound s) (same_Ok state last (reads_lines [] state) refl is) sound
lines_keep (line ∷ lines) state last is sound =
    let step = bind-Ok (reads line state) (reads_lines lines) last is in
    lines_keep lines step.0 last step.2 (reads-keeps line state step.0 step.1 sound)

pub designs_are_regular : DesignsAreRegular
unfolding design_of
designs_are_regular text design is =
    let read = bind-Ok (reads_lines (lines_in text) start) (λ state. Ok (design_so_far state)) design is in
    subst (λ d. IsRegular d) (same_Ok (design_so_far read.0) design (Ok (design_so_far read.0)) refl read.2) (sound-is_regular read.0 (lines_keep (lines_in text) start read.0 read.1 start-is_sound))
