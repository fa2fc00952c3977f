-- The faults of a line: a table of conditions, of which the first that holds decides.
use Rattle.std.specs.Prelude.{ℕ, Bool, true, false, not, ◌&&◌, ◌||◌, ◌==◌, ◌+◌, nat_lt, nat_eq, List, [], ◌∷◌, ◌++◌, length, Option, Some, None, if◌then◌else◌}
use Rattle.std.specs.List.{list_any}
use Rattle.std.specs.Option.{is_none}
use Rattle.net_base.specs.Keys.{is_among}
use Rattle.blif_model.specs.declared.design.Table.{Table}
use Rattle.blif_model.specs.declared.design.TheConstants.{MAX_INPUTS, MAX_OUTPUTS, MAX_TABLES, MAX_PINS}
use Rattle.blif_model.specs.Names.{number_of, with_name}
use Rattle.blif_read.specs.declared.fault.BlifKind.{BlifKind}
use Rattle.blif_read.specs.declared.fault.BlifKind.TheVariants as kind
use Rattle.blif_read.specs.declared.port.Port.{Port}
use Rattle.blif_read.specs.declared.port.Port.TheVariants.{Input, Output}
use Rattle.blif_read.specs.declared.word.Word.{Word}
use Rattle.blif_read.specs.declared.word.Word.TheVariants.{Model, Inputs, Outputs, Names, Unsupported, Unknown, Row}
use Rattle.blif_read.specs.Words.{Line, first_token, further_tokens}
use Rattle.blif_read.specs.Rows.{is_row_shape, are_row_chars, is_on}
use Rattle.blif_read.specs.Signals.{is_long}
use Rattle.blif_read.specs.State.{State, tables_so_far, model_name}

-- a kind where its condition holds
infix 80 ◌when◌
abbrev pub ◌when◌ : BlifKind → Bool → Option BlifKind
told when holds = if holds then Some told else None

-- the first kind whose condition holds
abbrev pub first_of : List (Option BlifKind) → Option BlifKind
first_of [] = None
first_of (None ∷ others) = first_of others
first_of (Some told ∷ others) = Some told

-- how an `.inputs` or an `.outputs` line tells its faults, and how many signals there may be
abbrev pub duplicate_of : Port → BlifKind
duplicate_of Input = kind.DuplicateInput
duplicate_of Output = kind.DuplicateOutput

abbrev pub too_many_of : Port → BlifKind
too_many_of Input = kind.TooManyInputs
too_many_of Output = kind.TooManyOutputs

abbrev pub most_of : Port → ℕ
most_of Input = MAX_INPUTS
most_of Output = MAX_OUTPUTS

-- the fault of a token of such a line, behind the signals that are listed already
abbrev pub token_fault : Port → List (List ℕ) → List ℕ → List ℕ → Option BlifKind
token_fault port names listed token =
    first_of (
    kind.NameTooLong when is_long token
    ∷ duplicate_of port when is_among nat_eq (number_of token names) listed
    ∷ too_many_of port when (length listed == most_of port)
    ∷ []
    )

-- the tokens are taken from the left, and the first one with a fault decides
abbrev pub listing_fault : Port → List (List ℕ) → List ℕ → List (List ℕ) → Option BlifKind
listing_fault port names listed [] = None
listing_fault port names listed (token ∷ tokens) =
    first_of (token_fault port names listed token ∷ listing_fault port (with_name token names) (listed ++ number_of token names ∷ []) tokens ∷ [])

-- a second `.model`, or one behind an `.end`
abbrev pub is_second_model : Word → State → Bool
is_second_model Model state = state.has_model || state.has_end
is_second_model word state = false

-- a `.model` whose name is too long
abbrev pub has_long_model : Word → Line → Bool
has_long_model Model line = is_long (model_name line.tokens)
has_long_model word line = false

-- the first fault among the inputs of an `.inputs` line
abbrev pub inputs_fault : Word → Line → State → Option BlifKind
inputs_fault Inputs line state = listing_fault Input state.design.names state.design.inputs (further_tokens line.tokens)
inputs_fault word line state = None

-- the first fault among the outputs of an `.outputs` line
abbrev pub outputs_fault : Word → Line → State → Option BlifKind
outputs_fault Outputs line state = listing_fault Output state.design.names state.design.outputs (further_tokens line.tokens)
outputs_fault word line state = None

-- a `.names` behind as many tables as there may be
abbrev pub is_table_too_many : Word → State → Bool
is_table_too_many Names state = length (tables_so_far state) == MAX_TABLES
is_table_too_many word state = false

-- a `.names` without a signal
abbrev pub has_no_target : Word → Line → Bool
has_no_target Names line = length (further_tokens line.tokens) == 0
has_no_target word line = false

-- a `.names` with too many pins before its target
abbrev pub has_too_many_pins : Word → Line → Bool
has_too_many_pins Names line = nat_lt (MAX_PINS + 1) (length (further_tokens line.tokens))
has_too_many_pins word line = false

-- a `.names` with a signal whose name is too long
abbrev pub has_long_signal : Word → Line → Bool
has_long_signal Names line = list_any is_long (further_tokens line.tokens)
has_long_signal word line = false

-- a word of BLIF that isn't read here
abbrev pub is_unsupported : Word → Bool
is_unsupported Unsupported = true
is_unsupported word = false

-- a word that isn't known
abbrev pub is_unknown : Word → Bool
is_unknown Unknown = true
is_unknown word = false

-- what holds of the current table
abbrev pub of_current : State → (Table → Bool) → Bool
of_current state holds = elim state.table [ None ↦ false | Some table ↦ holds table ]

-- two outputs are different
abbrev pub differ : Bool → Bool → Bool
differ true on = not on
differ false on = on

-- a row without a current table
abbrev pub is_outside_table : Word → State → Bool
is_outside_table Row state = is_none state.table
is_outside_table word state = false

-- a row of another shape than its table wants
abbrev pub has_other_shape : Word → Line → State → Bool
has_other_shape Row line state = of_current state (λ table. not (is_row_shape (length table.pins) line.tokens))
has_other_shape word line state = false

-- a row with a character that may not stand at its place
abbrev pub has_other_char : Word → Line → Bool
has_other_char Row line = not (are_row_chars line.tokens)
has_other_char word line = false

-- a row whose output differs from that of the rows before it
abbrev pub has_other_output : Word → Line → State → Bool
has_other_output Row line state = of_current state (λ table. nat_lt 0 (length table.rows) && differ table.on (is_on line.tokens))
has_other_output word line state = false

-- The table of faults, in the order of the profile.
unfoldable pub fault_of : Word → Line → State → Option BlifKind
fault_of word line state =
    first_of (
    kind.BadByte when line.bad
    ∷ kind.SecondModel when is_second_model word state
    ∷ kind.AfterEnd when state.has_end
    ∷ kind.NameTooLong when has_long_model word line
    ∷ inputs_fault word line state
    ∷ outputs_fault word line state
    ∷ kind.TooManyTables when is_table_too_many word state
    ∷ kind.NoTarget when has_no_target word line
    ∷ kind.TooManyPins when has_too_many_pins word line
    ∷ kind.NameTooLong when has_long_signal word line
    ∷ kind.Unsupported (first_token line.tokens) when is_unsupported word
    ∷ kind.UnknownWord when is_unknown word
    ∷ kind.RowOutsideTable when is_outside_table word state
    ∷ kind.RowShape when has_other_shape word line state
    ∷ kind.RowChar when has_other_char word line
    ∷ kind.MixedOutput when has_other_output word line state
    ∷ []
    )

-- what is left of it for a row of a table
abbrev pub row_fault : List (List ℕ) → Table → Option BlifKind
row_fault tokens table =
    first_of (
    kind.RowShape when not (is_row_shape (length table.pins) tokens)
    ∷ kind.RowChar when not (are_row_chars tokens)
    ∷ kind.MixedOutput when (nat_lt 0 (length table.rows) && differ table.on (is_on tokens))
    ∷ []
    )
