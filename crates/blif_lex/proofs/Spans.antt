-- The tokens of a line stand in ascending order in the text, and none of them is empty.
use Rattle.std.proofs.Common.{◌≡◌, ◌<◌, ◌≤◌, ◌+◌, ◌-◌, ◌++◌, ◌∷◌, ℕ, Bool, true, false, nat_le, List, [], length, take, drop, map, refl, subst, arith, length-drop, length-take, if◌then◌else◌}
use Rattle.std.specs.List.{filter, AllByRecursion}
use Rattle.std.proofs.lemmas.Bool.Decides.{nat_tests}
use Rattle.blif_lex.specs.declared.line.Span.{Span}
use Rattle.blif_lex.specs.declared.line.LogicalLine.{LogicalLine}
use Rattle.blif_lex.specs.Parts.{Part, cut_at, with_byte}
use Rattle.blif_lex.specs.PhysicalLines.{is_blank, is_line_feed, ends_in, without_last_byte, without_carriage_return, without_comment, without_last_blanks, kept, is_joined, content, cut_at_line_feeds}
use Rattle.blif_lex.specs.LogicalLines.{AreWithin, span_of, tokens_at, line_of, joined, logical_lines, is_given, all_from, lines_from}

-- parts in order between two places
abbrev AreParts : ℕ → ℕ → List Part → Type 0
AreParts start end [] = Unit {0}
AreParts start end (part ∷ parts) = (start ≤ part.start) × (part.start + length part.bytes ≤ end) × AreParts (part.start + length part.bytes) end parts

AreParts-earlier : (start earlier end : ℕ) (parts : List Part) → earlier ≤ start → AreParts start end parts → AreParts earlier end parts
AreParts-earlier start earlier end [] h parts = tt
AreParts-earlier start earlier end (part ∷ parts) h are = (omega (arith, are.0), are.1, are.2)

module _ (is_separator : ℕ → Bool) where
  with_byte-AreParts : (start byte end : ℕ) (parts : List Part) → start + 1 ≤ end → AreParts (start + 1) end parts → AreParts start end (with_byte start byte parts)
  with_byte-AreParts start byte end [] some are = (omega arith, omega arith, tt)
  with_byte-AreParts start byte end (part ∷ parts) some are =
      (omega arith, omega (arith, are.0, are.1), AreParts-earlier (part.start + length part.bytes) (start + length (byte ∷ part.bytes)) end parts (omega (arith, are.0)) are.2)

  parts_by : (start byte end : ℕ) (text : List ℕ) (is_one : Bool) → is_separator byte ≡ is_one → start + 1 ≤ end
      → AreParts (start + 1) end (cut_at is_separator (start + 1) text) → AreParts start end (cut_at is_separator start (byte ∷ text))
  parts_by start byte end text true is some are = rw is (omega arith, omega arith, AreParts-earlier (start + 1) (start + 0) end (cut_at is_separator (start + 1) text) (omega arith) are)
  parts_by start byte end text false is some are = rw is (with_byte-AreParts start byte end (cut_at is_separator (start + 1) text) some are)

  cut_at-AreParts : (start end : ℕ) (text : List ℕ) → start + length text ≤ end → AreParts start end (cut_at is_separator start text)
  cut_at-AreParts start end [] within = tt
  cut_at-AreParts start end (byte ∷ text) within =
      parts_by start byte end text (is_separator byte) refl (omega arith) (cut_at-AreParts (start + 1) end text (omega arith))

-- spans in order
AreWithin-earlier : (start earlier size : ℕ) (spans : List Span) → earlier ≤ start → AreWithin start size spans → AreWithin earlier size spans
AreWithin-earlier start earlier size [] h are = tt
AreWithin-earlier start earlier size (span ∷ spans) h are = (omega (arith, are.0), are.1, are.2, are.3)

AreWithin-later : (start size later : ℕ) (spans : List Span) → size ≤ later → AreWithin start size spans → AreWithin start later spans
AreWithin-later start size later [] h are = tt
AreWithin-later start size later (span ∷ spans) h are = (are.0, are.1, omega (arith, are.2), AreWithin-later span.end size later spans h are.3)

AreWithin-append : (start middle end : ℕ) (spans others : List Span) → start ≤ middle → middle ≤ end → AreWithin start middle spans → AreWithin middle end others → AreWithin start end (spans ++ others)
AreWithin-append start middle end [] others low high are more = AreWithin-earlier middle start end others low more
AreWithin-append start middle end (span ∷ spans) others low high are more =
    (are.0, are.1, omega (arith, are.2), AreWithin-append span.end middle end spans others are.2 high are.3 more)

-- the tokens among parts
abbrev tokens_of : List Part → List Span
tokens_of parts = map span_of (filter (λ part. nat_le 1 (length part.bytes)) parts)

tokens_by : (start end : ℕ) (part : Part) (parts : List Part) (is_one : Bool) → nat_le 1 (length part.bytes) ≡ is_one → AreParts start end (part ∷ parts)
    → AreWithin (part.start + length part.bytes) end (tokens_of parts) → AreWithin start end (tokens_of (part ∷ parts))
tokens_by start end part parts true is are more =
    let some : 0 < length part.bytes = grind (arith, nat_tests) in
    rw is (are.0, omega arith, are.1, more)
tokens_by start end part parts false is are more = rw is (AreWithin-earlier (part.start + length part.bytes) start end (tokens_of parts) (omega (arith, are.0)) more)

tokens_of-AreWithin : (start end : ℕ) (parts : List Part) → AreParts start end parts → AreWithin start end (tokens_of parts)
tokens_of-AreWithin start end [] are = tt
tokens_of-AreWithin start end (part ∷ parts) are =
    tokens_by start end part parts (nat_le 1 (length part.bytes)) refl are (tokens_of-AreWithin (part.start + length part.bytes) end parts are.2)

tokens_at-AreWithin : (start end : ℕ) (bytes : List ℕ) → start + length bytes ≤ end → AreWithin start end (tokens_at start bytes)
unfolding tokens_at
tokens_at-AreWithin start end bytes within = tokens_of-AreWithin start end (cut_at is_blank start bytes) (cut_at-AreParts is_blank start end bytes within)

-- what is read of a line is no longer than the line
if_shorter : (test : Bool) (line shorter other : List ℕ) → length shorter ≤ length line → length other ≤ length line → length (if test then shorter else other) ≤ length line
if_shorter true line shorter other h k = h
if_shorter false line shorter other h k = k

take-shorter : (n : ℕ) (line : List ℕ) → length (take n line) ≤ length line
take-shorter n line = omega (arith, length-take n line)

without_carriage_return-shorter : (line : List ℕ) → length (without_carriage_return line) ≤ length line
unfolding without_carriage_return
without_carriage_return-shorter line = if_shorter (ends_in 13 line) line (without_last_byte line) line (take-shorter (length line - 1) line) (omega arith)

without_comment-shorter : (line : List ℕ) → length (without_comment line) ≤ length line
unfolding without_comment
without_comment-shorter line = take-shorter _ line

without_last_blanks-shorter : (line : List ℕ) → length (without_last_blanks line) ≤ length line
unfolding without_last_blanks
without_last_blanks-shorter line = take-shorter _ line

kept-shorter : (line : List ℕ) → length (kept line) ≤ length line
unfolding kept
kept-shorter line =
    let front = without_carriage_return line in
    omega (arith, without_carriage_return-shorter line, without_comment-shorter front, without_last_blanks-shorter (without_comment front))

content-shorter : (line : List ℕ) → length (content line) ≤ length line
unfolding content is_joined
content-shorter line =
    let short = kept-shorter line in
    if_shorter (ends_in 92 (kept line)) line (without_last_byte (kept line)) (kept line) (omega (arith, take-shorter (length (kept line) - 1) (kept line))) short

line_of-AreWithin : (number start end : ℕ) (part : Part) → start ≤ part.start → part.start + length part.bytes ≤ end → AreWithin start end (line_of number part).tokens
unfolding line_of
line_of-AreWithin number start end part low high =
    AreWithin-earlier part.start start end (tokens_at part.start (content part.bytes)) low
    (tokens_at-AreWithin part.start end (content part.bytes) (omega (arith, content-shorter part.bytes)))

-- lines whose tokens stand between two places
abbrev AreLines : ℕ → ℕ → List LogicalLine → Type 0
AreLines start end lines = AllByRecursion (λ line. AreWithin start end line.tokens) lines

AreLines-earlier : (start earlier end : ℕ) (lines : List LogicalLine) → earlier ≤ start → AreLines start end lines → AreLines earlier end lines
AreLines-earlier start earlier end [] h are = tt
AreLines-earlier start earlier end (line ∷ lines) h are = (AreWithin-earlier start earlier end line.tokens h are.0, AreLines-earlier start earlier end lines h are.1)

module _ (start middle end : ℕ) (line : LogicalLine) (low : start ≤ middle) (high : middle ≤ end) (is : AreWithin start middle line.tokens) where
  alone-AreLines : (lines : List LogicalLine) → AreLines middle end lines → AreLines start end (line ∷ lines)
  alone-AreLines lines are = (AreWithin-later start middle end line.tokens high is, AreLines-earlier middle start end lines low are)

  joined-AreLines : (lines : List LogicalLine) → AreLines middle end lines → AreLines start end (joined line lines)
  joined-AreLines [] are = (AreWithin-later start middle end line.tokens high is, tt)
  joined-AreLines (next ∷ lines) are =
      (AreWithin-append start middle end line.tokens next.tokens low high is are.0, AreLines-earlier middle start end lines low are.1)

  either-AreLines : (is_one : Bool) (lines : List LogicalLine) → AreLines middle end lines → AreLines start end (if is_one then joined line lines else line ∷ lines)
  either-AreLines true lines are = joined-AreLines lines are
  either-AreLines false lines are = alone-AreLines lines are

logical_lines-AreLines : (number start end : ℕ) (parts : List Part) → AreParts start end parts → AreLines start end (logical_lines number parts)
logical_lines-AreLines number start end [] are = tt
logical_lines-AreLines number start end (part ∷ parts) are =
    let middle = part.start + length part.bytes in
    either-AreLines start middle end (line_of number part) (omega (arith, are.0)) are.1 (line_of-AreWithin number start middle part are.0 (omega arith))
    (is_joined part.bytes) (logical_lines (number + 1) parts) (logical_lines-AreLines (number + 1) middle end parts are.2)

kept_by : (start end : ℕ) (line : LogicalLine) (lines : List LogicalLine) (given : Bool) → is_given line ≡ given → AreWithin start end line.tokens → AreLines start end (filter is_given lines) → AreLines start end (filter is_given (line ∷ lines))
kept_by start end line lines true is here others = rw is (here, others)
kept_by start end line lines false is here others = rw is others

given-AreLines : (start end : ℕ) (lines : List LogicalLine) → AreLines start end lines → AreLines start end (filter is_given lines)
given-AreLines start end [] are = tt
given-AreLines start end (line ∷ lines) are = kept_by start end line lines (is_given line) refl are.0 (given-AreLines start end lines are.1)

lines_from-AreLines : (number at : ℕ) (text : List ℕ) → at ≤ length text → AreLines at (length text) (lines_from number at text)
unfolding lines_from all_from
lines_from-AreLines number at text within =
    let parts = cut_at_line_feeds at (drop at text) in
    given-AreLines at (length text) (logical_lines number parts)
    (logical_lines-AreLines number at (length text) parts (cut_at-AreParts is_line_feed at (length text) (drop at text) (omega (arith, length-drop at text))))

-- The first line that is left has its tokens in the text.
pub first-AreWithin : (number at : ℕ) (text : List ℕ) (line : LogicalLine) (others : List LogicalLine) → at ≤ length text
    → lines_from number at text ≡ line ∷ others → AreWithin 0 (length text) line.tokens
first-AreWithin number at text line others within is =
    let are : AreLines at (length text) (line ∷ others) = subst (AreLines at (length text)) is (lines_from-AreLines number at text within) in
    AreWithin-earlier at 0 (length text) line.tokens (omega arith) are.0
