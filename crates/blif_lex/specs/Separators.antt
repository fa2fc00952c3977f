-- What a token is in its text, whatever the lines are: bytes that aren't empty and have no blank and no line feed in them,
-- between what may separate tokens.
use Rattle.std.specs.Prelude.{◌≡◌, ◌<◌, ℕ, ◌+◌, Bool, true, not, ◌||◌, ◌==◌, List, [], ◌∷◌, ◌++◌, length, None, IfSome}
use Rattle.std.specs.List.{list_all, last_or, AllByRecursion}
use Rattle.blif_lex.specs.declared.line.Span.{Span}
use Rattle.blif_lex.specs.PhysicalLines.{is_line_feed, is_blank, is_hash}
use Rattle.blif_lex.specs.LogicalLines.{lines_of}

-- what stands before a token: a blank or a line feed
abbrev pub is_before : ℕ → Bool
is_before byte = is_blank byte || is_line_feed byte

-- what stands behind a token: one of these, or what is dropped of a line, from a carriage return, a `#` or a backslash on
abbrev pub is_behind : ℕ → Bool
is_behind byte = is_before byte || byte == 13 || is_hash byte || byte == 92

-- The last of these bytes, where there is one, passes a test,
abbrev pub EndsBy : (ℕ → Bool) → List ℕ → Type 0
EndsBy test bytes = IfSome (last_or None bytes) (λ byte. test byte ≡ true)

-- or the first one does.
abbrev pub BeginsBy : (ℕ → Bool) → List ℕ → Type 0
BeginsBy test [] = Unit {0}
BeginsBy test (byte ∷ bytes) = test byte ≡ true

-- a token of a text: what stands before it, its bytes, and what stands behind it
pub record IsToken (text : List ℕ) (span : Span) : Type 0 where
  pub before : List ℕ
  pub bytes : List ℕ
  pub behind : List ℕ
  pub whole : text ≡ before ++ (bytes ++ behind)
  pub start : span.start ≡ length before
  pub end : span.end ≡ length before + length bytes
  pub some : 0 < length bytes
  pub inside : list_all (λ byte. not (is_before byte)) bytes ≡ true
  pub front : EndsBy is_before before
  pub back : BeginsBy is_behind behind

-- The tokens of all lines of a text are such.
abbrev pub TokensStandBetweenSeparators : Type 0
TokensStandBetweenSeparators = (text : List ℕ) → AllByRecursion (λ line. AllByRecursion (IsToken text) line.tokens) (lines_of text)
