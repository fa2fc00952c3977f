-- The logical lines of a text: physical lines, some of them joined to the next, with their tokens.
use Rattle.std.specs.Prelude.{◌<◌, ◌≤◌, ℕ, ◌+◌, Bool, ◌||◌, nat_le, List, [], ◌∷◌, ◌++◌, map, length, drop, if◌then◌else◌}
use Rattle.std.specs.List.{filter, list_any}
use Rattle.blif_lex.specs.declared.line.LogicalLine.{LogicalLine}
use Rattle.blif_lex.specs.declared.line.Span.{Span}
use Rattle.blif_lex.specs.Parts.{Part, cut_at}
use Rattle.blif_lex.specs.PhysicalLines.{is_blank, is_bad_byte, cut_at_line_feeds, is_joined, content}

-- the part of the text that these bytes are
abbrev pub span_of : Part → Span
span_of part = record { start = part.start; end = part.start + length part.bytes }

-- The tokens of bytes at a place: what stands between their blanks and isn't empty.
unfoldable pub tokens_at : ℕ → List ℕ → List Span
tokens_at start bytes = map span_of (filter (λ part. nat_le 1 (length part.bytes)) (cut_at is_blank start bytes))

-- a physical line of a number, by itself
unfoldable pub line_of : ℕ → Part → LogicalLine
line_of number part = record {
  line = number;
  bad = list_any is_bad_byte (content part.bytes);
  tokens = tokens_at part.start (content part.bytes);
}

-- One line of two: it has the number of the first, is bad where either is, and has the tokens of both.
abbrev pub one_line : LogicalLine → LogicalLine → LogicalLine
one_line line next = record { line = line.line; bad = line.bad || next.bad; tokens = line.tokens ++ next.tokens }

-- A line to which the first of these lines is joined. At the end of the text nothing is.
abbrev pub joined : LogicalLine → List LogicalLine → List LogicalLine
joined line [] = line ∷ []
joined line (next ∷ lines) = one_line line next ∷ lines

-- The logical lines of physical lines, the first of which has a number. Each physical line is looked at by itself, so what a
-- join makes isn't looked at again.
abbrev pub logical_lines : ℕ → List Part → List LogicalLine
logical_lines number [] = []
logical_lines number (part ∷ parts) =
    if is_joined part.bytes
    then joined (line_of number part) (logical_lines (number + 1) parts)
    else line_of number part ∷ logical_lines (number + 1) parts

-- the logical lines of a text from a place on, where the physical line of a number begins
unfoldable pub all_from : ℕ → ℕ → List ℕ → List LogicalLine
all_from number start text = logical_lines number (cut_at_line_feeds start (drop start text))

-- A line that has no token and isn't bad is skipped. (A bad byte is no blank, so a bad line has a token.)
abbrev pub is_given : LogicalLine → Bool
is_given line = line.bad || nat_le 1 (length line.tokens)

-- the same lines without those that are skipped
unfoldable pub lines_from : ℕ → ℕ → List ℕ → List LogicalLine
lines_from number start text = filter is_given (all_from number start text)

-- The logical lines of a text. Physical lines are numbered from 1.
abbrev pub lines_of : List ℕ → List LogicalLine
lines_of text = lines_from 1 0 text

-- a text, and its logical lines that are still to come
pub record Reading : Type 0 where
  pub text : List ℕ
  pub left : List LogicalLine

-- Spans in ascending order between two places of a text, none of them empty.
abbrev pub AreWithin : ℕ → ℕ → List Span → Type 0
AreWithin start size [] = Unit {0}
AreWithin start size (span ∷ spans) = (start ≤ span.start) × (span.start < span.end) × (span.end ≤ size) × AreWithin span.end size spans
