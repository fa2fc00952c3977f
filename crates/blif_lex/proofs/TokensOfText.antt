-- Each token of a line is one of the text: the line stands in the text between line feeds, what is read of it stands at its
-- front, and the token stands there between blanks.
use Rattle.std.proofs.Common.{◌≡◌, ◌<◌, ◌+◌, ◌++◌, ◌∷◌, ◌||◌, ◌&&◌, ℕ, Bool, true, false, not, nat_le, List, [], length, map, Some, None, Option, refl, sym, ap, ◌∙◌, append_assoc, length-append, arith, if◌then◌else◌}
use Rattle.std.specs.List.{filter, list_all, last_or, AllByRecursion}
use Rattle.std.proofs.lemmas.Bool.Decides.{nat_tests}
use Rattle.std.proofs.lemmas.Bool.{and_from}
use Rattle.blif_lex.specs.declared.line.Span.{Span}
use Rattle.blif_lex.specs.declared.line.LogicalLine.{LogicalLine}
use Rattle.blif_lex.specs.Parts.{Part, cut_at}
use Rattle.blif_lex.specs.PhysicalLines.{is_blank, is_line_feed, is_joined, content, cut_at_line_feeds}
use Rattle.blif_lex.specs.LogicalLines.{span_of, tokens_at, line_of, joined, logical_lines, is_given, all_from, lines_from}
use Rattle.blif_lex.specs.Separators.{is_before, is_behind, EndsBy, BeginsBy, IsToken, TokensStandBetweenSeparators}
use Rattle.blif_lex.proofs.PartsOfText.{IsFirst, IsLater, AreCut, cut_at-AreCut}
use Rattle.blif_lex.proofs.FrontOfLine.{BeginsBy-append, content-IsFront}

-- tests of all bytes
and_left : (a b : Bool) → (a && b) ≡ true → a ≡ true
and_left true b h = refl
and_left false b h = h

and_right : (a b : Bool) → (a && b) ≡ true → b ≡ true
and_right true b h = h
and_right false b h = cc

nor : (a b : Bool) → not a ≡ true → not b ≡ true → not (a || b) ≡ true
nor true b h k = h
nor false b h k = k

list_all-left : (test : ℕ → Bool) (bytes others : List ℕ) → list_all test (bytes ++ others) ≡ true → list_all test bytes ≡ true
list_all-left test [] others all = refl
list_all-left test (byte ∷ bytes) others all =
    let rest : list_all test (bytes ++ others) ≡ true = and_right (test byte) (list_all test (bytes ++ others)) all in
    and_from (test byte) (list_all test bytes) (and_left (test byte) (list_all test (bytes ++ others)) all) (list_all-left test bytes others rest)

list_all-right : (test : ℕ → Bool) (bytes others : List ℕ) → list_all test (bytes ++ others) ≡ true → list_all test others ≡ true
list_all-right test [] others all = all
list_all-right test (byte ∷ bytes) others all = list_all-right test bytes others (and_right (test byte) (list_all test (bytes ++ others)) all)

both_pass : (bytes : List ℕ) → list_all (λ byte. not (is_blank byte)) bytes ≡ true → list_all (λ byte. not (is_line_feed byte)) bytes ≡ true → list_all (λ byte. not (is_before byte)) bytes ≡ true
both_pass [] blanks feeds = refl
both_pass (byte ∷ bytes) blanks feeds =
    let no_blanks = list_all (λ byte. not (is_blank byte)) bytes in
    let no_feeds = list_all (λ byte. not (is_line_feed byte)) bytes in
    and_from (not (is_before byte)) (list_all (λ byte. not (is_before byte)) bytes)
    (nor (is_blank byte) (is_line_feed byte) (and_left (not (is_blank byte)) no_blanks blanks) (and_left (not (is_line_feed byte)) no_feeds feeds))
    (both_pass bytes (and_right (not (is_blank byte)) no_blanks blanks) (and_right (not (is_line_feed byte)) no_feeds feeds))

-- the byte before
last-snoc : (o : Option ℕ) (bytes : List ℕ) (byte : ℕ) → last_or o (bytes ++ byte ∷ []) ≡ Some byte
last-snoc o [] byte = refl
last-snoc o (first ∷ bytes) byte = last-snoc (Some first) bytes byte

EndsBy-snoc : (bytes : List ℕ) (byte : ℕ) → is_before byte ≡ true → EndsBy is_before (bytes ++ byte ∷ [])
EndsBy-snoc bytes byte is = rw (last-snoc None bytes byte) is

blank-before : (byte : ℕ) → is_blank byte ≡ true → is_before byte ≡ true
blank-before byte is = rw is refl

BeginsBy-blank : (bytes : List ℕ) → BeginsBy is_blank bytes → BeginsBy is_behind bytes
BeginsBy-blank [] begins = tt
BeginsBy-blank (byte ∷ bytes) begins = rw begins refl

or_true : (b : Bool) → (b || true) ≡ true
or_true true = refl
or_true false = refl

BeginsBy-line_feed : (bytes : List ℕ) → BeginsBy is_line_feed bytes → BeginsBy is_behind bytes
BeginsBy-line_feed [] begins = tt
BeginsBy-line_feed (byte ∷ bytes) begins = rw (begins, or_true (is_blank byte)) refl

line_feed-before : (byte : ℕ) → is_line_feed byte ≡ true → is_before byte ≡ true
line_feed-before byte is = rw (is, or_true (is_blank byte)) refl

-- bytes that are read, in the text
pub record AreRead (text : List ℕ) (start : ℕ) (bytes : List ℕ) : Type 0 where
  pub before : List ℕ
  pub behind : List ℕ
  pub whole : text ≡ before ++ (bytes ++ behind)
  pub place : start ≡ length before
  pub inside : list_all (λ byte. not (is_line_feed byte)) bytes ≡ true
  pub front : EndsBy is_before before
  pub back : BeginsBy is_behind behind

module _ (text : List ℕ) (start : ℕ) (bytes : List ℕ) (are : AreRead text start bytes) where
  first_token : (part : Part) → IsFirst is_blank start bytes part → 0 < length part.bytes → IsToken text (span_of part)
  first_token part first some = record {
    before = are.before;
    bytes = part.bytes;
    behind = first.behind ++ are.behind;
    whole = are.whole ∙ ap (λ middle. are.before ++ (middle ++ are.behind)) first.whole ∙ simp append_assoc;
    start = first.place ∙ are.place;
    end = omega (arith, first.place, are.place);
    some = some;
    inside = both_pass part.bytes first.inside (list_all-left (λ byte. not (is_line_feed byte)) part.bytes first.behind (ap (list_all (λ byte. not (is_line_feed byte))) (sym first.whole) ∙ are.inside));
    front = are.front;
    back = BeginsBy-append is_behind first.behind are.behind (BeginsBy-blank first.behind first.back) are.back;
  }

  later_whole : (front behind token : List ℕ) (separator : ℕ) → bytes ≡ front ++ (separator ∷ (token ++ behind))
      → text ≡ ((are.before ++ front) ++ separator ∷ []) ++ (token ++ (behind ++ are.behind))
  later_whole front behind token separator is = are.whole ∙ ap (λ middle. are.before ++ (middle ++ are.behind)) is ∙ simp append_assoc

  later_inside : (front behind token : List ℕ) (separator : ℕ) → bytes ≡ front ++ (separator ∷ (token ++ behind)) → list_all (λ byte. not (is_line_feed byte)) token ≡ true
  later_inside front behind token separator is =
      let feedless = λ (byte : ℕ). not (is_line_feed byte) in
      let all = list_all-right feedless front (separator ∷ (token ++ behind)) (ap (list_all feedless) (sym is) ∙ are.inside) in
      list_all-left feedless token behind (and_right (feedless separator) (list_all feedless (token ++ behind)) all)

  later_token : (part : Part) → IsLater is_blank start bytes part → 0 < length part.bytes → IsToken text (span_of part)
  later_token part later some =
      let size = length-append (are.before ++ later.front) (later.separator ∷ []) in
      let front_size = length-append are.before later.front in
      record {
        before = (are.before ++ later.front) ++ later.separator ∷ [];
        bytes = part.bytes;
        behind = later.behind ++ are.behind;
        whole = later_whole later.front later.behind part.bytes later.separator later.whole;
        start = omega (arith, later.place, are.place, size, front_size);
        end = omega (arith, later.place, are.place, size, front_size);
        some = some;
        inside = both_pass part.bytes later.inside (later_inside later.front later.behind part.bytes later.separator later.whole);
        front = EndsBy-snoc (are.before ++ later.front) later.separator (blank-before later.separator later.is_one);
        back = BeginsBy-append is_behind later.behind are.behind (BeginsBy-blank later.behind later.back) are.back;
      }

  -- the tokens among parts
  abbrev tokens_of : List Part → List Span
  tokens_of parts = map span_of (filter (λ part. nat_le 1 (length part.bytes)) parts)

  tokens_by : (part : Part) (parts : List Part) (is_one : Bool) → nat_le 1 (length part.bytes) ≡ is_one → (0 < length part.bytes → IsToken text (span_of part))
      → AllByRecursion (IsToken text) (tokens_of parts) → AllByRecursion (IsToken text) (tokens_of (part ∷ parts))
  tokens_by part parts true is token others =
      let some : 0 < length part.bytes = grind (arith, nat_tests) in
      rw is (token some, others)
  tokens_by part parts false is token others = rw is others

  later_tokens : (parts : List Part) → AllByRecursion (IsLater is_blank start bytes) parts → AllByRecursion (IsToken text) (tokens_of parts)
  later_tokens [] later = tt
  later_tokens (part ∷ parts) later = tokens_by part parts (nat_le 1 (length part.bytes)) refl (later_token part later.0) (later_tokens parts later.1)

  all_tokens : (parts : List Part) → AreCut is_blank start bytes parts → AllByRecursion (IsToken text) (tokens_of parts)
  all_tokens [] cut = tt
  all_tokens (part ∷ parts) cut = tokens_by part parts (nat_le 1 (length part.bytes)) refl (first_token part cut.0) (later_tokens parts cut.1)

  tokens_at-AreTokens : AllByRecursion (IsToken text) (tokens_at start bytes)
  unfolding tokens_at
  tokens_at-AreTokens = all_tokens (cut_at is_blank start bytes) (cut_at-AreCut is_blank start bytes)

module _ (text : List ℕ) where
  -- what is read of a line that is read is its front
  front_is_read : (start : ℕ) (line : List ℕ) → AreRead text start line → AreRead text start (content line)
  front_is_read start line are =
      let front = content-IsFront line in
      record {
        before = are.before;
        behind = front.behind ++ are.behind;
        whole = are.whole ∙ ap (λ middle. are.before ++ (middle ++ are.behind)) front.whole ∙ simp append_assoc;
        place = are.place;
        inside = list_all-left (λ byte. not (is_line_feed byte)) (content line) front.behind (ap (list_all (λ byte. not (is_line_feed byte))) (sym front.whole) ∙ are.inside);
        front = are.front;
        back = BeginsBy-append is_behind front.behind are.behind front.back are.back;
      }

  abbrev HasTokens : LogicalLine → Type 0
  HasTokens line = AllByRecursion (IsToken text) line.tokens

  line_of-HasTokens : (number : ℕ) (part : Part) → AreRead text part.start part.bytes → HasTokens (line_of number part)
  unfolding line_of
  line_of-HasTokens number part are = tokens_at-AreTokens text part.start (content part.bytes) (front_is_read part.start part.bytes are)

  first_is_read : (part : Part) → IsFirst is_line_feed 0 text part → AreRead text part.start part.bytes
  first_is_read part first = record {
    before = [];
    behind = first.behind;
    whole = first.whole;
    place = first.place;
    inside = first.inside;
    front = tt;
    back = BeginsBy-line_feed first.behind first.back;
  }

  later_is_read : (part : Part) → IsLater is_line_feed 0 text part → AreRead text part.start part.bytes
  later_is_read part later = record {
    before = later.front ++ later.separator ∷ [];
    behind = later.behind;
    whole = later.whole ∙ sym (append_assoc later.front (later.separator ∷ []) (part.bytes ++ later.behind));
    place = omega (arith, later.place, length-append later.front (later.separator ∷ []));
    inside = later.inside;
    front = EndsBy-snoc later.front later.separator (line_feed-before later.separator later.is_one);
    back = BeginsBy-line_feed later.behind later.back;
  }

  all_append : (spans others : List Span) → AllByRecursion (IsToken text) spans → AllByRecursion (IsToken text) others → AllByRecursion (IsToken text) (spans ++ others)
  all_append [] others are more = more
  all_append (span ∷ spans) others are more = (are.0, all_append spans others are.1 more)

  joined_by : (is_one : Bool) (line : LogicalLine) (lines : List LogicalLine) → HasTokens line → AllByRecursion HasTokens lines → AllByRecursion HasTokens (if is_one then joined line lines else line ∷ lines)
  joined_by true line [] has have = (has, tt)
  joined_by true line (next ∷ lines) has have = (all_append line.tokens next.tokens has have.0, have.1)
  joined_by false line lines has have = (has, have)

  later_lines : (number : ℕ) (parts : List Part) → AllByRecursion (IsLater is_line_feed 0 text) parts → AllByRecursion HasTokens (logical_lines number parts)
  later_lines number [] later = tt
  later_lines number (part ∷ parts) later =
      joined_by (is_joined part.bytes) (line_of number part) (logical_lines (number + 1) parts) (line_of-HasTokens number part (later_is_read part later.0)) (later_lines (number + 1) parts later.1)

  all_lines : (number : ℕ) (parts : List Part) → AreCut is_line_feed 0 text parts → AllByRecursion HasTokens (logical_lines number parts)
  all_lines number [] cut = tt
  all_lines number (part ∷ parts) cut =
      joined_by (is_joined part.bytes) (line_of number part) (logical_lines (number + 1) parts) (line_of-HasTokens number part (first_is_read part cut.0)) (later_lines (number + 1) parts cut.1)

  given_by : (line : LogicalLine) (lines : List LogicalLine) (is_one : Bool) → is_given line ≡ is_one → HasTokens line → AllByRecursion HasTokens (filter is_given lines) → AllByRecursion HasTokens (filter is_given (line ∷ lines))
  given_by line lines true is has have = rw is (has, have)
  given_by line lines false is has have = rw is have

  given_lines : (lines : List LogicalLine) → AllByRecursion HasTokens lines → AllByRecursion HasTokens (filter is_given lines)
  given_lines [] have = tt
  given_lines (line ∷ lines) have = given_by line lines (is_given line) refl have.0 (given_lines lines have.1)

pub tokens_stand_between_separators : TokensStandBetweenSeparators
unfolding lines_from all_from
tokens_stand_between_separators text =
    let parts = cut_at_line_feeds 0 text in
    given_lines text (logical_lines 1 parts) (all_lines text 1 parts (cut_at-AreCut is_line_feed 0 text))
