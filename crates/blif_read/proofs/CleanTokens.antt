-- The tokens of a line that isn't bad have the bytes of names alone: what is read of a physical line is its front, up to a
-- comment at most, so it has no `#`; where it isn't bad its bytes are tabs or visible or spaces; and a token has no blank.
use Rattle.std.proofs.Common.{◌≡◌, ◌≤◌, ◌+◌, ◌-◌, ◌++◌, ◌&&◌, ◌∙◌, ℕ, suc, Bool, true, false, not, nat_le, List, [], ◌∷◌, length, map, take, drop, All, refl, sym, ap, subst, append_assoc, length-append, length-drop, append-nil, arith, if◌then◌else◌}
use Rattle.std.specs.Prelude.{slice_range}
use Rattle.std.specs.List.{filter, list_any, list_all, position_or_len, AllByRecursion}
use Rattle.std.proofs.lemmas.Bool.{or_parts, and_parts}
use Rattle.std.proofs.lemmas.Bool.Decides.{nat_tests}
use Rattle.std.proofs.lemmas.List.{take-append-drop, drop-drop}
use Rattle.std.proofs.lemmas.List.Elements.{All-nil, All-cons, All-append, All-from_recursion}
use Rattle.std.proofs.Math.Seq.{take-append_seam}
use Rattle.net_base.specs.Name.{IsNameByte}
use Rattle.blif_lex.specs.declared.line.LogicalLine.{LogicalLine}
use Rattle.blif_lex.specs.Parts.{Part, with_byte, cut_at}
use Rattle.blif_lex.specs.PhysicalLines.{is_line_feed, is_blank, is_hash, is_bad_byte, cut_at_line_feeds, ends_in, without_last_byte, without_carriage_return, without_comment, without_last_blanks, kept, is_joined, content}
use Rattle.blif_lex.specs.LogicalLines.{span_of, tokens_at, line_of, joined, logical_lines, is_given, all_from, lines_from, lines_of}
use Rattle.blif_read.specs.Clean.{IsTokenOf, IsCleanUnlessBad}

-- bytes that begin others
pub record IsFrontOf (bytes front : List ℕ) : Type 0 where
  pub behind : List ℕ
  pub whole : bytes ≡ front ++ behind

front_itself : (bytes : List ℕ) → IsFrontOf bytes bytes
front_itself bytes = record { behind = []; whole = sym (append-nil bytes) }

front_taken : (n : ℕ) (bytes : List ℕ) → IsFrontOf bytes (take n bytes)
front_taken n bytes = record { behind = drop n bytes; whole = sym (take-append-drop n bytes) }

front_of_front : (bytes front other : List ℕ) → IsFrontOf bytes front → IsFrontOf front other → IsFrontOf bytes other
front_of_front bytes front other is of_it =
    record { behind = of_it.behind ++ is.behind; whole = is.whole ∙ ap (λ b. b ++ is.behind) of_it.whole ∙ append_assoc other of_it.behind is.behind }

front_either : (b : Bool) (bytes one other : List ℕ) → IsFrontOf bytes one → IsFrontOf bytes other → IsFrontOf bytes (if b then one else other)
front_either true bytes one other is so = is
front_either false bytes one other is so = so

-- what is read of a physical line is a front of it without its comment,
content-front_of_comment : (line : List ℕ) → IsFrontOf (without_comment (without_carriage_return line)) (content line)
unfolding content kept without_last_blanks
content-front_of_comment line =
    let bare = without_comment (without_carriage_return line) in
    let inner : IsFrontOf bare (kept line) = front_taken _ bare in
    front_either (is_joined line) bare (without_last_byte (kept line)) (kept line)
    (front_of_front bare (kept line) (without_last_byte (kept line)) inner (front_taken _ (kept line)))
    inner

-- and so of the line
content-front : (line : List ℕ) → IsFrontOf line (content line)
unfolding without_comment without_carriage_return
content-front line =
    let bare = without_carriage_return line in
    front_of_front line (without_comment bare) (content line)
    (front_of_front line bare (without_comment bare) (front_either (ends_in 13 line) line (without_last_byte line) line (front_taken _ line) (front_itself line)) (front_taken _ bare))
    (content-front_of_comment line)

-- tests of all bytes
list_all-front : (test : ℕ → Bool) (bytes behind : List ℕ) → list_all test (bytes ++ behind) ≡ true → list_all test bytes ≡ true
list_all-front test [] behind all = refl
list_all-front test (byte ∷ bytes) behind all =
    let parts = and_parts (test byte) (list_all test (bytes ++ behind)) all in rw (parts.0, list_all-front test bytes behind parts.1) refl

before_first-passes : (test : ℕ → Bool) (bytes : List ℕ) → list_all (λ byte. not (test byte)) (take (position_or_len test bytes) bytes) ≡ true
before_first-passes test [] = refl
before_first-passes test (byte ∷ bytes) = by (test byte) refl (before_first-passes test bytes)
  where
    by : (b : Bool) → test byte ≡ b → list_all (λ byte. not (test byte)) (take (position_or_len test bytes) bytes) ≡ true → list_all (λ byte. not (test byte)) (take (position_or_len test (byte ∷ bytes)) (byte ∷ bytes)) ≡ true
    by true e rest = rw e refl
    by false e rest =
        let next : 1 + position_or_len test bytes ≡ suc (position_or_len test bytes) = omega arith in
        rw (e, next) (rw e rest)

content-no_hash : (line : List ℕ) → list_all (λ byte. not (is_hash byte)) (content line) ≡ true
unfolding without_comment
content-no_hash line =
    let front = content-front_of_comment line in
    let all : list_all (λ byte. not (is_hash byte)) (without_comment (without_carriage_return line)) ≡ true = before_first-passes is_hash (without_carriage_return line) in
    list_all-front (λ byte. not (is_hash byte)) (content line) front.behind (ap (list_all (λ byte. not (is_hash byte))) (sym front.whole) ∙ all)

-- a byte of a token
abbrev is_plain : ℕ → Bool
is_plain byte = not (is_hash byte) && not (is_bad_byte byte)

all_plain : (bytes : List ℕ) → list_all (λ byte. not (is_hash byte)) bytes ≡ true → list_any is_bad_byte bytes ≡ false → list_all is_plain bytes ≡ true
all_plain [] hashes bads = refl
all_plain (byte ∷ bytes) hashes bads =
    let no_hash = and_parts (not (is_hash byte)) (list_all (λ byte. not (is_hash byte)) bytes) hashes in
    let no_bad = or_parts (is_bad_byte byte) (list_any is_bad_byte bytes) bads in
    rw (no_hash.0, no_bad.0) (all_plain bytes no_hash.1 no_bad.1)

name_byte : (byte : ℕ) → is_plain byte ≡ true → not (is_blank byte) ≡ true → IsNameByte byte
name_byte byte plain blank = (grind (arith, nat_tests), grind (arith, nat_tests), grind (arith, nat_tests))

name_bytes : (bytes : List ℕ) → list_all is_plain bytes ≡ true → list_all (λ byte. not (is_blank byte)) bytes ≡ true → All IsNameByte bytes
name_bytes [] plain blanks = All-nil IsNameByte
name_bytes (byte ∷ bytes) plain blanks =
    let first = and_parts (is_plain byte) (list_all is_plain bytes) plain in
    let second = and_parts (not (is_blank byte)) (list_all (λ byte. not (is_blank byte)) bytes) blanks in
    All-cons IsNameByte byte bytes (name_byte byte first.0 second.0) (name_bytes bytes first.1 second.1)

-- bytes that stand at a place of a text
pub record StandAt (text : List ℕ) (start : ℕ) (bytes : List ℕ) : Type 0 where
  pub behind : List ℕ
  pub whole : drop start text ≡ bytes ++ behind

-- The parts that bytes of a text are cut into. Each stands in the text at its place, has no separator, and passes what all
-- bytes pass.
module _ (text : List ℕ) (is_separator test : ℕ → Bool) where
  pub record IsCut (part : Part) : Type 0 where
    pub stands : StandAt text part.start part.bytes
    pub inside : list_all (λ byte. not (is_separator byte)) part.bytes ≡ true
    pub passes : list_all test part.bytes ≡ true

  -- the first part begins where the bytes do
  abbrev BeginsAt : ℕ → List Part → Type 0
  BeginsAt start [] = Unit {0}
  BeginsAt start (part ∷ parts) = part.start ≡ start

  with_byte-begins : (start byte : ℕ) (parts : List Part) → BeginsAt start (with_byte start byte parts)
  with_byte-begins start byte [] = refl
  with_byte-begins start byte (part ∷ parts) = refl

  cut-begins : (start : ℕ) (bytes : List ℕ) → BeginsAt start (cut_at is_separator start bytes)
  cut-begins start [] = tt
  cut-begins start (byte ∷ bytes) = by (is_separator byte)
    where
      by : (b : Bool) → BeginsAt start (if b then record { start = start; bytes = [] } ∷ cut_at is_separator (start + 1) bytes else with_byte start byte (cut_at is_separator (start + 1) bytes))
      by true = refl
      by false = with_byte-begins start byte (cut_at is_separator (start + 1) bytes)

  next_stands : (start byte : ℕ) (bytes : List ℕ) → StandAt text start (byte ∷ bytes) → StandAt text (start + 1) bytes
  next_stands start byte bytes at = record { behind = at.behind; whole = sym (drop-drop 1 start text) ∙ ap (drop 1) at.whole }

  cut_with_byte : (start byte : ℕ) (bytes : List ℕ) (parts : List Part) → StandAt text start (byte ∷ bytes) → is_separator byte ≡ false → test byte ≡ true → BeginsAt (start + 1) parts
      → AllByRecursion IsCut parts → AllByRecursion IsCut (with_byte start byte parts)
  unfolding next_stands
  cut_with_byte start byte bytes [] at none passes begins are =
      let one : IsCut (record { start = start; bytes = byte ∷ [] }) =
      record { stands = record { behind = bytes ++ at.behind; whole = at.whole }; inside = rw none refl; passes = rw passes refl } in
      (one, tt)
  cut_with_byte start byte bytes (part ∷ parts) at none passes begins are =
      let next = next_stands start byte bytes at in
      let same : part.bytes ++ are.0.stands.behind ≡ bytes ++ at.behind = sym are.0.stands.whole ∙ ap (λ n. drop n text) begins ∙ next.whole in
      let one : IsCut (record { start = start; bytes = byte ∷ part.bytes }) = record {
        stands = record { behind = are.0.stands.behind; whole = at.whole ∙ ap (λ rest. byte ∷ rest) (sym same) };
        inside = rw none are.0.inside;
        passes = rw passes are.0.passes;
      } in
      (one, are.1)

  parts-AreCut : (start : ℕ) (bytes : List ℕ) → StandAt text start bytes → list_all test bytes ≡ true → AllByRecursion IsCut (cut_at is_separator start bytes)
  parts-AreCut start [] at all = tt
  parts-AreCut start (byte ∷ bytes) at all =
      let passes = and_parts (test byte) (list_all test bytes) all in
      by (is_separator byte) refl passes.0 (parts-AreCut (start + 1) bytes (next_stands start byte bytes at) passes.1)
    where
      by : (b : Bool) → is_separator byte ≡ b → test byte ≡ true → AllByRecursion IsCut (cut_at is_separator (start + 1) bytes) → AllByRecursion IsCut (if b then record { start = start; bytes = [] } ∷ cut_at is_separator (start + 1) bytes else with_byte start byte (cut_at is_separator (start + 1) bytes))
      by true e passes others =
          let none : IsCut (record { start = start; bytes = [] }) = record { stands = record { behind = byte ∷ (bytes ++ at.behind); whole = at.whole }; inside = refl; passes = refl } in
          (none, others)
      by false e passes others = cut_with_byte start byte bytes (cut_at is_separator (start + 1) bytes) at e passes (cut-begins (start + 1) bytes) others

module _ (text : List ℕ) where
  -- a part without blanks is a token
  part_is_token : (part : Part) → IsCut text is_blank is_plain part → nat_le 1 (length part.bytes) ≡ true → IsTokenOf text (span_of part)
  part_is_token part cut some =
      let stands = cut.stands in
      let here : length text - part.start ≡ length part.bytes + length stands.behind = sym (length-drop part.start text) ∙ ap length stands.whole ∙ length-append part.bytes stands.behind in
      let many : 1 ≤ length part.bytes = grind (arith, nat_tests) in
      let size : (part.start + length part.bytes) - part.start ≡ length part.bytes = omega arith in
      let bytes : slice_range text part.start (part.start + length part.bytes) ≡ part.bytes =
      ap (λ n. take n (drop part.start text)) size ∙ ap (take (length part.bytes)) stands.whole ∙ take-append_seam part.bytes stands.behind in
      record {
        some = omega arith;
        within = omega arith;
        visible = subst (λ b. All IsNameByte b) (sym bytes) (name_bytes part.bytes cut.passes cut.inside);
      }

  tokens_are : (parts : List Part) → AllByRecursion (IsCut text is_blank is_plain) parts → All (IsTokenOf text) (map span_of (filter (λ part. nat_le 1 (length part.bytes)) parts))
  tokens_are [] are = All-nil (IsTokenOf text)
  tokens_are (part ∷ parts) are = by (nat_le 1 (length part.bytes)) refl (tokens_are parts are.1)
    where
      by : (b : Bool) → nat_le 1 (length part.bytes) ≡ b → All (IsTokenOf text) (map span_of (filter (λ part. nat_le 1 (length part.bytes)) parts))
          → All (IsTokenOf text) (map span_of (if b then part ∷ filter (λ part. nat_le 1 (length part.bytes)) parts else filter (λ part. nat_le 1 (length part.bytes)) parts))
      by true e rest = All-cons (IsTokenOf text) (span_of part) (map span_of (filter (λ part. nat_le 1 (length part.bytes)) parts)) (part_is_token part are.0 e) rest
      by false e rest = rest

  -- a physical line is clean unless it is bad,
  line_is_clean : (number : ℕ) (part : Part) → StandAt text part.start part.bytes → IsCleanUnlessBad text (line_of number part)
  unfolding line_of tokens_at
  line_is_clean number part at good =
      let front = content-front part.bytes in
      let here : StandAt text part.start (content part.bytes) = record { behind = front.behind ++ at.behind; whole = at.whole ∙ ap (λ bytes. bytes ++ at.behind) front.whole ∙ append_assoc (content part.bytes) front.behind at.behind } in
      tokens_are (cut_at is_blank part.start (content part.bytes)) (parts-AreCut text is_blank is_plain part.start (content part.bytes) here (all_plain (content part.bytes) (content-no_hash part.bytes) good))

  -- and so are two that are joined
  joined_by : (is_one : Bool) (line : LogicalLine) (lines : List LogicalLine) → IsCleanUnlessBad text line → AllByRecursion (IsCleanUnlessBad text) lines
      → AllByRecursion (IsCleanUnlessBad text) (if is_one then joined line lines else line ∷ lines)
  joined_by true line [] clean others = (clean, tt)
  joined_by true line (next ∷ lines) clean others = (
    λ good. let parts = or_parts line.bad next.bad good in All-append (IsTokenOf text) line.tokens next.tokens (clean parts.0) (others.0 parts.1),
    others.1,
  )
  joined_by false line lines clean others = (clean, others)

  abbrev any : ℕ → Bool
  any byte = true

  logical_are_clean : (number : ℕ) (parts : List Part) → AllByRecursion (IsCut text is_line_feed any) parts → AllByRecursion (IsCleanUnlessBad text) (logical_lines number parts)
  logical_are_clean number [] are = tt
  logical_are_clean number (part ∷ parts) are =
      joined_by (is_joined part.bytes) (line_of number part) (logical_lines (number + 1) parts) (line_is_clean number part are.0.stands) (logical_are_clean (number + 1) parts are.1)

  given_are_clean : (lines : List LogicalLine) → AllByRecursion (IsCleanUnlessBad text) lines → AllByRecursion (IsCleanUnlessBad text) (filter is_given lines)
  given_are_clean [] are = tt
  given_are_clean (line ∷ lines) are = by (is_given line) (given_are_clean lines are.1)
    where
      by : (b : Bool) → AllByRecursion (IsCleanUnlessBad text) (filter is_given lines) → AllByRecursion (IsCleanUnlessBad text) (if b then line ∷ filter is_given lines else filter is_given lines)
      by true rest = (are.0, rest)
      by false rest = rest

  all_any : (bytes : List ℕ) → list_all any bytes ≡ true
  all_any [] = refl
  all_any (byte ∷ bytes) = all_any bytes

  pub lines_are_clean : All (IsCleanUnlessBad text) (lines_of text)
  unfolding lines_from all_from
  lines_are_clean =
      let at : StandAt text 0 text = record { behind = []; whole = sym (append-nil text) } in
      All-from_recursion (IsCleanUnlessBad text) (lines_of text)
      (given_are_clean (logical_lines 1 (cut_at_line_feeds 0 text)) (logical_are_clean 1 (cut_at_line_feeds 0 text) (parts-AreCut text is_line_feed any 0 text at (all_any text))))
