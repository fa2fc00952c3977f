-- Lines of tokens are read as those lines.
--
-- A line of tokens, a space between two, and a line feed: the first line feed of the text ends it, nothing of it is dropped,
-- since its last byte is that of a token, and its parts between blanks are the tokens, at their places in the text.
use Rattle.std.proofs.Common.{◌≡◌, ◌<◌, ◌≤◌, ◌+◌, ◌-◌, ◌++◌, ◌∷◌, ◌==◌, ◌&&◌, ◌||◌, ℕ, Bool, true, false, not, nat_le, List, [], length, map, take, get_or, slice_range, refl, sym, ap, subst, ◌∙◌, append_assoc, append-nil, length-append, arith}
use Rattle.std.specs.List.{filter, list_all, list_any, position_or_len, prefix_len, suffix_len, AllByRecursion}
use Rattle.std.proofs.lemmas.Bool.Decides.{nat_tests}
use Rattle.std.proofs.lemmas.List.{length_push, get_or_at, take_more, take_all, reverse-append}
use Rattle.std.proofs.lemmas.List.Folds.{list_all-append}
use Rattle.std.proofs.lemmas.List.Sums.{AllPass-from_list_all}
use Rattle.std.proofs.Math.Seq.{take-append_seam, drop-append_seam}
use Rattle.std.proofs.lemmas.Bool.{and_parts, not-true}
use Rattle.blif_lex.specs.declared.line.LogicalLine.{LogicalLine}
use Rattle.blif_lex.specs.declared.line.Span.{Span}
use Rattle.blif_lex.specs.Parts.{Part, cut_at, with_byte}
use Rattle.blif_lex.specs.PhysicalLines.{is_line_feed, is_blank, is_hash, is_bad_byte, cut_at_line_feeds, ends_in, without_carriage_return, without_comment, without_last_blanks, kept, is_joined, content}
use Rattle.blif_lex.specs.LogicalLines.{span_of, tokens_at, line_of, logical_lines, is_given, all_from, lines_from}
use Rattle.blif_read.specs.Words.{Line, line_at, lines_in}
use Rattle.blif_read.specs.Spelling.{words_of, lines_text}

-- a byte from the exclamation mark to the tilde, and not the sign that begins a comment
abbrev pub is_token_byte : ℕ → Bool
is_token_byte byte = nat_le 33 byte && nat_le byte 126 && not (byte == 35)

-- a token whose last byte isn't a backslash
pub record IsOpenToken (token : List ℕ) : Type 0 where
  pub some : 0 < length token
  pub visible : list_all is_token_byte token ≡ true
  pub open_end : ends_in 92 token ≡ false

-- a line of such tokens
pub record IsLineOfTokens (tokens : List (List ℕ)) : Type 0 where
  pub some : 0 < length tokens
  pub tokens_are : AllByRecursion IsOpenToken tokens

-- a line that isn't bad
abbrev pub good_line : ℕ → List (List ℕ) → Line
good_line number tokens = record { number = number; bad = false; tokens = tokens }

-- lines that are read, numbered from one on
abbrev pub numbered : ℕ → List (List (List ℕ)) → List Line
numbered number [] = []
numbered number (tokens ∷ lines) = good_line number tokens ∷ numbered (number + 1) lines

-- tests of all bytes
pub list_all-weaker : (p q : ℕ → Bool) (bytes : List ℕ) → ((byte : ℕ) → p byte ≡ true → q byte ≡ true) → list_all p bytes ≡ true → list_all q bytes ≡ true
list_all-weaker p q [] implies all = refl
list_all-weaker p q (byte ∷ bytes) implies all =
    let parts = and_parts (p byte) (list_all p bytes) all in rw (implies byte parts.0, list_all-weaker p q bytes implies parts.1) refl

list_any-not : (p q : ℕ → Bool) (bytes : List ℕ) → ((byte : ℕ) → p byte ≡ true → q byte ≡ false) → list_all p bytes ≡ true → list_any q bytes ≡ false
list_any-not p q [] implies all = refl
list_any-not p q (byte ∷ bytes) implies all =
    let parts = and_parts (p byte) (list_all p bytes) all in rw (implies byte parts.0, list_any-not p q bytes implies parts.1) refl

-- a byte of a line: that of a token, or a space
abbrev is_line_byte : ℕ → Bool
is_line_byte byte = is_token_byte byte || byte == 32

token_byte-line : (byte : ℕ) → is_token_byte byte ≡ true → is_line_byte byte ≡ true
token_byte-line byte is = rw is refl

no_blank : (byte : ℕ) → is_token_byte byte ≡ true → not (is_blank byte) ≡ true
no_blank byte is = grind (arith, nat_tests)

blank_not : (byte : ℕ) → is_token_byte byte ≡ true → is_blank byte ≡ false
blank_not byte is = not-true (is_blank byte) (no_blank byte is)

no_return : (byte : ℕ) → is_token_byte byte ≡ true → (byte == 13) ≡ false
no_return byte is = grind (arith, nat_tests)

no_feed : (byte : ℕ) → is_line_byte byte ≡ true → not (is_line_feed byte) ≡ true
no_feed byte is = grind (arith, nat_tests)

no_hash : (byte : ℕ) → is_line_byte byte ≡ true → not (is_hash byte) ≡ true
no_hash byte is = grind (arith, nat_tests)

not_bad : (byte : ℕ) → is_line_byte byte ≡ true → is_bad_byte byte ≡ false
not_bad byte is = grind (arith, nat_tests)

-- The parts of bytes: one before a separator,
module _ (is_separator : ℕ → Bool) where
  cut_at-separated : (start : ℕ) (front rest : List ℕ) (separator : ℕ) → list_all (λ byte. not (is_separator byte)) front ≡ true → is_separator separator ≡ true
      → cut_at is_separator start (front ++ separator ∷ rest) ≡ record { start = start; bytes = front } ∷ cut_at is_separator (start + (length front + 1)) rest
  cut_at-separated start [] rest separator none is = rw is refl
  cut_at-separated start (byte ∷ front) rest separator none is =
      let parts = and_parts (not (is_separator byte)) (list_all (λ byte. not (is_separator byte)) front) none in
      let other : is_separator byte ≡ false = not-true (is_separator byte) parts.0 in
      let place : start + 1 + (length front + 1) ≡ start + (length (byte ∷ front) + 1) = omega arith in
      rw other (ap (with_byte start byte) (cut_at-separated (start + 1) front rest separator parts.1 is) ∙ rw place refl)

  -- and all of them, where there is none
  cut_at-whole : (start byte : ℕ) (front : List ℕ) → list_all (λ byte. not (is_separator byte)) (byte ∷ front) ≡ true → cut_at is_separator start (byte ∷ front) ≡ record { start = start; bytes = byte ∷ front } ∷ []
  cut_at-whole start byte [] none =
      let parts = and_parts (not (is_separator byte)) true none in rw (not-true (is_separator byte) parts.0) refl
  cut_at-whole start byte (next ∷ front) none =
      let parts = and_parts (not (is_separator byte)) (list_all (λ byte. not (is_separator byte)) (next ∷ front)) none in
      rw (not-true (is_separator byte) parts.0) (ap (with_byte start byte) (cut_at-whole (start + 1) next front parts.1))

-- bytes whose last one is that of a token, and no backslash
record EndsOpen (bytes : List ℕ) : Type 0 where
  front : List ℕ
  last : ℕ
  whole : bytes ≡ front ++ last ∷ []
  visible : is_token_byte last ≡ true
  open_end : (last == 92) ≡ false

pub last-snoc : (front : List ℕ) (last : ℕ) → get_or (front ++ last ∷ []) (length (front ++ last ∷ []) - 1) 0 ≡ last
last-snoc front last = get_or_at front last [] 0 (length (front ++ last ∷ []) - 1) (omega (arith, length_push front last))

token-EndsOpen : (token : List ℕ) → IsOpenToken token → EndsOpen token
token-EndsOpen token is =
    let i = length token - 1 in
    let within : i < length token = omega (arith, is.some) in
    let size : i + 1 ≡ length token = omega (arith, is.some) in
    record {
      front = take i token;
      last = get_or token i 0;
      whole = sym (take_all (length token) token (omega arith)) ∙ ap (λ n. take n token) (sym size) ∙ take_more token i 0 within;
      visible = AllPass-from_list_all is_token_byte token is.visible i 0 within;
      open_end = is.open_end;
    }

line-EndsOpen : (token : List ℕ) (tokens : List (List ℕ)) → IsOpenToken token → AllByRecursion IsOpenToken tokens → EndsOpen (token ++ words_of tokens)
line-EndsOpen token [] is are = subst (λ bytes. EndsOpen bytes) (sym (append-nil token)) (token-EndsOpen token is)
line-EndsOpen token (next ∷ tokens) is are =
    let ends = line-EndsOpen next tokens are.0 are.1 in
    record {
      front = token ++ 32 ∷ ends.front;
      last = ends.last;
      whole = ap (λ bytes. token ++ 32 ∷ bytes) ends.whole ∙ sym (append_assoc token (32 ∷ ends.front) (ends.last ∷ []));
      visible = ends.visible;
      open_end = ends.open_end;
    }

line-bytes : (token : List ℕ) (tokens : List (List ℕ)) → IsOpenToken token → AllByRecursion IsOpenToken tokens → list_all is_line_byte (token ++ words_of tokens) ≡ true
line-bytes token [] is are = ap (list_all is_line_byte) (append-nil token) ∙ list_all-weaker is_token_byte is_line_byte token token_byte-line is.visible
line-bytes token (next ∷ tokens) is are =
    let first : list_all is_line_byte token ≡ true = list_all-weaker is_token_byte is_line_byte token token_byte-line is.visible in
    list_all-append is_line_byte token (32 ∷ (next ++ words_of tokens)) ∙ rw (first, line-bytes next tokens are.0 are.1) refl

-- what is read of a line: nothing is dropped of bytes without a comment that end so
module _ (bytes : List ℕ) (ends : EndsOpen bytes) (hashless : list_all (λ byte. not (is_hash byte)) bytes ≡ true) where
  last_byte : get_or bytes (length bytes - 1) 0 ≡ ends.last
  last_byte = ap (λ b. get_or b (length b - 1) 0) ends.whole ∙ last-snoc ends.front ends.last

  keeps_return : without_carriage_return bytes ≡ bytes
  unfolding without_carriage_return
  keeps_return = rw (ap (λ byte. byte == 13) last_byte ∙ no_return ends.last ends.visible) refl

  position_whole : (test : ℕ → Bool) (line : List ℕ) → list_all (λ byte. not (test byte)) line ≡ true → position_or_len test line ≡ length line
  position_whole test [] none = refl
  position_whole test (byte ∷ line) none =
      let parts = and_parts (not (test byte)) (list_all (λ byte. not (test byte)) line) none in
      rw parts.0 (omega (arith, position_whole test line parts.1))

  keeps_comment : without_comment bytes ≡ bytes
  unfolding without_comment
  keeps_comment = take_all (position_or_len is_hash bytes) bytes (omega (arith, position_whole is_hash bytes hashless))

  no_last_blanks : suffix_len is_blank bytes ≡ 0
  no_last_blanks =
      ap (suffix_len is_blank) ends.whole ∙ ap (prefix_len is_blank) (reverse-append ends.front (ends.last ∷ []))
      ∙ rw (blank_not ends.last ends.visible) refl

  keeps_blanks : without_last_blanks bytes ≡ bytes
  unfolding without_last_blanks
  keeps_blanks = take_all (length bytes - suffix_len is_blank bytes) bytes (omega (arith, no_last_blanks))

  kept-whole : kept bytes ≡ bytes
  unfolding kept
  kept-whole = ap (λ line. without_last_blanks (without_comment line)) keeps_return ∙ ap without_last_blanks keeps_comment ∙ keeps_blanks

  is_joined-not : is_joined bytes ≡ false
  unfolding is_joined
  is_joined-not = ap (ends_in 92) kept-whole ∙ ap (λ byte. byte == 92) last_byte ∙ ends.open_end

  content-whole : content bytes ≡ bytes
  unfolding content
  content-whole = rw is_joined-not kept-whole

-- the tokens of a line, each at its place
abbrev parts_of : ℕ → List (List ℕ) → List Part
parts_of start [] = []
parts_of start (token ∷ tokens) = record { start = start; bytes = token } ∷ parts_of (start + (length token + 1)) tokens

one_part : (start : ℕ) (token : List ℕ) → IsOpenToken token → cut_at is_blank start token ≡ record { start = start; bytes = token } ∷ []
one_part start [] is = absurd (omega (arith, is.some))
one_part start (byte ∷ token) is = cut_at-whole is_blank start byte token (list_all-weaker is_token_byte (λ byte. not (is_blank byte)) (byte ∷ token) no_blank is.visible)

cut_at-words : (start : ℕ) (token : List ℕ) (tokens : List (List ℕ)) → IsOpenToken token → AllByRecursion IsOpenToken tokens → cut_at is_blank start (token ++ words_of tokens) ≡ parts_of start (token ∷ tokens)
cut_at-words start token [] is are = ap (cut_at is_blank start) (append-nil token) ∙ one_part start token is
cut_at-words start token (next ∷ tokens) is are =
    cut_at-separated is_blank start token (next ++ words_of tokens) 32 (list_all-weaker is_token_byte (λ byte. not (is_blank byte)) token no_blank is.visible) refl
    ∙ ap (λ parts. record { start = start; bytes = token } ∷ parts) (cut_at-words (start + (length token + 1)) next tokens are.0 are.1)

filter-parts : (start : ℕ) (tokens : List (List ℕ)) → AllByRecursion IsOpenToken tokens → filter (λ part. nat_le 1 (length part.bytes)) (parts_of start tokens) ≡ parts_of start tokens
filter-parts start [] are = refl
filter-parts start (token ∷ tokens) are =
    let some = are.0.some in
    let is : nat_le 1 (length token) ≡ true = grind (arith, nat_tests) in
    rw (is, filter-parts (start + (length token + 1)) tokens are.1) refl

-- the bytes of a span
abbrev bytes_at : List ℕ → Span → List ℕ
bytes_at text span = slice_range text span.start span.end

-- bytes behind others
bytes_at-seam : (before token rest : List ℕ) → slice_range (before ++ (token ++ rest)) (length before) (length before + length token) ≡ token
bytes_at-seam before token rest =
    let size : length before + length token - length before ≡ length token = omega arith in
    rw (size, drop-append_seam before (token ++ rest)) (take-append_seam token rest)

found_tokens : (text before rest token : List ℕ) (tokens : List (List ℕ)) (start : ℕ) → start ≡ length before → text ≡ before ++ ((token ++ words_of tokens) ++ rest)
    → map (bytes_at text) (map span_of (parts_of start (token ∷ tokens))) ≡ token ∷ tokens
found_tokens text before rest token [] start at whole =
    let here : slice_range text start (start + length token) ≡ token = rw (whole, at) (ap (λ bytes. slice_range (before ++ bytes) (length before) (length before + length token)) (append_assoc token [] rest) ∙ bytes_at-seam before token rest) in
    rw here refl
found_tokens text before rest token (next ∷ tokens) start at whole =
    let behind = (32 ∷ (next ++ words_of tokens)) ++ rest in
    let grouped : text ≡ before ++ (token ++ behind) = whole ∙ ap (λ bytes. before ++ bytes) (append_assoc token (32 ∷ (next ++ words_of tokens)) rest) in
    let here : slice_range text start (start + length token) ≡ token = rw (grouped, at) (bytes_at-seam before token behind) in
    let place : start + (length token + 1) ≡ length (before ++ (token ++ 32 ∷ [])) = omega (arith, length-append before (token ++ 32 ∷ []), length_push token 32) in
    let later : text ≡ (before ++ (token ++ 32 ∷ [])) ++ ((next ++ words_of tokens) ++ rest) = grouped ∙ simp append_assoc in
    ap (λ bytes. bytes ∷ map (bytes_at text) (map span_of (parts_of (start + (length token + 1)) (next ∷ tokens)))) here
    ∙ ap (λ bytes. token ∷ bytes) (found_tokens text (before ++ (token ++ 32 ∷ [])) rest next tokens (start + (length token + 1)) place later)

-- a physical line by its parts
abbrev logical : ℕ → Bool → List Span → LogicalLine
logical number bad spans = record { line = number; bad = bad; tokens = spans }

module _ (token : List ℕ) (tokens : List (List ℕ)) (is : IsOpenToken token) (are : AllByRecursion IsOpenToken tokens) where
  abbrev bytes : List ℕ
  bytes = token ++ words_of tokens

  hashless : list_all (λ byte. not (is_hash byte)) bytes ≡ true
  hashless = list_all-weaker is_line_byte (λ byte. not (is_hash byte)) bytes no_hash (line-bytes token tokens is are)

  feedless : list_all (λ byte. not (is_line_feed byte)) bytes ≡ true
  feedless = list_all-weaker is_line_byte (λ byte. not (is_line_feed byte)) bytes no_feed (line-bytes token tokens is are)

  unjoined : is_joined bytes ≡ false
  unjoined = is_joined-not bytes (line-EndsOpen token tokens is are) hashless

  -- a physical line has its tokens
  line_of-tokens : (number start : ℕ) → line_of number (record { start = start; bytes = bytes }) ≡ logical number false (map span_of (parts_of start (token ∷ tokens)))
  unfolding line_of tokens_at
  line_of-tokens number start =
      let some = λ (part : Part). nat_le 1 (length part.bytes) in
      let whole : content bytes ≡ bytes = content-whole bytes (line-EndsOpen token tokens is are) hashless in
      let good : list_any is_bad_byte bytes ≡ false = list_any-not is_line_byte is_bad_byte bytes not_bad (line-bytes token tokens is are) in
      let cut = ap (filter some) (cut_at-words start token tokens is are) ∙ filter-parts start (token ∷ tokens) (is, are) in
      ap (λ line. logical number (list_any is_bad_byte line) (map span_of (filter some (cut_at is_blank start line)))) whole
      ∙ ap (λ bad. logical number bad (map span_of (filter some (cut_at is_blank start bytes)))) good
      ∙ ap (λ parts. logical number false (map span_of parts)) cut

given_line : (number : ℕ) (spans : List Span) (others : List LogicalLine) → 1 ≤ length spans → filter is_given (logical number false spans ∷ others) ≡ logical number false spans ∷ filter is_given others
given_line number spans others some = let is : nat_le 1 (length spans) ≡ true = grind (arith, nat_tests) in rw is refl

lines_are_read : (text before : List ℕ) (number start : ℕ) (lines : List (List (List ℕ))) → start ≡ length before → text ≡ before ++ lines_text lines → AllByRecursion IsLineOfTokens lines
    → map (line_at text) (filter is_given (logical_lines number (cut_at_line_feeds start (lines_text lines)))) ≡ numbered number lines
lines_are_read text before number start [] at whole are = refl
lines_are_read text before number start ([] ∷ lines) at whole are = absurd (omega (arith, are.0.some))
lines_are_read text before number start ((token ∷ tokens) ∷ lines) at whole are =
    let open_tokens = are.0.tokens_are in
    let line = token ++ words_of tokens in
    let rest = lines_text lines in
    let next = start + (length line + 1) in
    let part : Part = record { start = start; bytes = line } in
    let grouped : lines_text ((token ∷ tokens) ∷ lines) ≡ line ++ 10 ∷ rest = append_assoc line (10 ∷ []) rest in
    let cut : cut_at_line_feeds start (lines_text ((token ∷ tokens) ∷ lines)) ≡ part ∷ cut_at_line_feeds next rest =
    ap (cut_at_line_feeds start) grouped ∙ cut_at-separated is_line_feed start line rest 10 (feedless token tokens open_tokens.0 open_tokens.1) refl in
    let others = logical_lines (number + 1) (cut_at_line_feeds next rest) in
    let spans = map span_of (parts_of start (token ∷ tokens)) in
    let first : logical_lines number (part ∷ cut_at_line_feeds next rest) ≡ logical number false spans ∷ others =
    rw (unjoined token tokens open_tokens.0 open_tokens.1) (ap (λ l. l ∷ others) (line_of-tokens token tokens open_tokens.0 open_tokens.1 number start)) in
    let given : filter is_given (logical number false spans ∷ others) ≡ logical number false spans ∷ filter is_given others = given_line number spans others (omega arith) in
    let found : map (bytes_at text) spans ≡ token ∷ tokens = found_tokens text before (10 ∷ rest) token tokens start at (whole ∙ ap (λ b. before ++ b) grouped) in
    let behind : text ≡ (before ++ (line ++ 10 ∷ [])) ++ rest = whole ∙ sym (append_assoc before (line ++ 10 ∷ []) rest) in
    let place : next ≡ length (before ++ (line ++ 10 ∷ [])) = omega (arith, at, length-append before (line ++ 10 ∷ []), length_push line 10) in
    ap (λ parts. map (line_at text) (filter is_given (logical_lines number parts))) cut
    ∙ ap (λ lines. map (line_at text) (filter is_given lines)) first
    ∙ ap (map (line_at text)) given
    ∙ ap (λ found. good_line number found ∷ map (line_at text) (filter is_given others)) found
    ∙ ap (λ lines. good_line number (token ∷ tokens) ∷ lines) (lines_are_read text (before ++ (line ++ 10 ∷ [])) (number + 1) next lines place behind are.1)

-- The lines of a text of lines of tokens are those lines, numbered from 1.
pub lines_in-text : (lines : List (List (List ℕ))) → AllByRecursion IsLineOfTokens lines → lines_in (lines_text lines) ≡ numbered 1 lines
unfolding lines_from all_from
lines_in-text lines are = lines_are_read (lines_text lines) [] 1 0 lines refl refl are
