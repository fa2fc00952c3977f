-- The lines that are read, and what a line says, by its first token.
use Rattle.std.specs.Prelude.{ℕ, Bool, ◌||◌, ◌==◌, List, [], ◌∷◌, map, drop, slice_index_or, slice_range, codes, if◌then◌else◌}
use Rattle.std.specs.Str.{bytes_eq}
use Rattle.blif_lex.specs.declared.line.LogicalLine.{LogicalLine}
use Rattle.blif_lex.specs.LogicalLines.{lines_of}
use Rattle.blif_read.specs.declared.word.Word.{Word}
use Rattle.blif_read.specs.declared.word.Word.TheVariants.{Model, Inputs, Outputs, Names, End, Unsupported, Unknown, Row}

-- a logical line, with the bytes of its tokens
pub record Line : Type 0 where
  pub number : ℕ
  pub bad : Bool
  pub tokens : List (List ℕ)

-- a line of a text, whose tokens are given by their places
abbrev pub line_at : List ℕ → LogicalLine → Line
line_at text line = record { number = line.line; bad = line.bad; tokens = map (λ span. slice_range text span.start span.end) line.tokens }

-- the logical lines of a text
abbrev pub lines_in : List ℕ → List Line
lines_in text = map (line_at text) (lines_of text)

-- the first token of a line
abbrev pub first_token : List (List ℕ) → List ℕ
first_token tokens = slice_index_or tokens 0 []

-- the tokens behind it
abbrev pub further_tokens : List (List ℕ) → List (List ℕ)
further_tokens tokens = drop 1 tokens

-- a word of BLIF that says more than a network of tables
unfoldable pub is_unsupported_word : List ℕ → Bool
is_unsupported_word token =
    bytes_eq token (codes ".latch")
    || bytes_eq token (codes ".mlatch")
    || bytes_eq token (codes ".subckt")
    || bytes_eq token (codes ".gate")
    || bytes_eq token (codes ".search")
    || bytes_eq token (codes ".exdc")
    || bytes_eq token (codes ".clock")
    || bytes_eq token (codes ".start_kiss")

-- any other token that begins with a dot is an unknown word, and one that doesn't begins a row
abbrev pub other_word : List ℕ → Word
other_word [] = Row
other_word (byte ∷ bytes) = if byte == 46 then Unknown else Row

-- what a line says that begins with this token
unfoldable pub word_of : List ℕ → Word
word_of token =
    if bytes_eq token (codes ".model") then Model else
    if bytes_eq token (codes ".inputs") then Inputs else
    if bytes_eq token (codes ".outputs") then Outputs else
    if bytes_eq token (codes ".names") then Names else
    if bytes_eq token (codes ".end") then End else
    if is_unsupported_word token then Unsupported else other_word token
