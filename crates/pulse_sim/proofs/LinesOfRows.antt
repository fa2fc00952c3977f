-- One turn of the loop over the lines of rows: the first line goes up to its line feed, or to the end.
use Rattle.std.proofs.Common.{◌≡◌, ◌<◌, ◌+◌, ◌++◌, ℕ, suc, Bool, true, false, nat_lt, List, [], ◌∷◌, length, take, drop, refl, sym, ap, ◌∙◌, arith, length-append}
use Rattle.std.specs.Prelude.{◌≤◌, ◌==◌, ◌&&◌, not, nat_le, if◌then◌else◌, Option, Some, None, Err, map}
use Rattle.std.specs.List.{position_or_len, list_all}
use Rattle.std.proofs.lemmas.Bool.Decides.{nat_tests}
use Rattle.net_base.specs.Answers.{◌>>=◌}
use Rattle.pulse_sim.specs.declared.fault.RowKind.{RowKind}
use Rattle.pulse_sim.specs.declared.fault.RowKind.TheVariants.{RowShape, RowChar, TooManyRows}
use Rattle.pulse_sim.specs.declared.rows.TheConstants.{MAX_ROWS}
use Rattle.pulse_sim.specs.Rows.{is_bit, TextLine, is_line_feed, with_byte, text_lines, is_one, wrong_in, row_of_line, rows_of_lines}

-- a first line of this length, and the lines behind it
abbrev pub front_line : ℕ → List ℕ → TextLine
front_line len text = record { bytes = take len text; is_ended = nat_lt len (length text) }

abbrev pub lines_behind : ℕ → List ℕ → List TextLine
lines_behind len text = front_line len text ∷ text_lines (drop (len + 1) text)

zero-lt : (n : ℕ) → true ≡ nat_lt 0 (suc n)
zero-lt n = grind (arith, nat_tests)

lt-suc : (a b : ℕ) → nat_lt a b ≡ nat_lt (suc a) (suc b)
lt-suc a b = grind (arith, nat_tests)

by_byte : (byte : ℕ) (text : List ℕ) (is_one : Bool) → is_line_feed byte ≡ is_one
    → (0 < length text → text_lines text ≡ lines_behind (position_or_len is_line_feed text) text)
    → text_lines (byte ∷ text) ≡ lines_behind (position_or_len is_line_feed (byte ∷ text)) (byte ∷ text)
by_byte byte text true is later = rw is (ap (λ more. record { bytes = []; is_ended = more } ∷ text_lines text) (zero-lt (length text)))
by_byte byte [] false is later = rw is refl
by_byte byte (next ∷ text) false is later =
    let some : 0 < length (next ∷ text) = omega arith in
    let whole : text_lines (byte ∷ next ∷ text) ≡ with_byte byte (text_lines (next ∷ text)) = rw is refl in
    let len : position_or_len is_line_feed (byte ∷ next ∷ text) ≡ suc (position_or_len is_line_feed (next ∷ text)) = rw is (omega arith) in
    let turn : (n : ℕ) → with_byte byte (lines_behind n (next ∷ text)) ≡ lines_behind (suc n) (byte ∷ next ∷ text) = λ n. (let size : suc n + 1 ≡ suc (n + 1) = omega arith in rw size (ap (λ more. record { bytes = take (suc n) (byte ∷ next ∷ text); is_ended = more } ∷ text_lines (drop (n + 1) (next ∷ text))) (lt-suc n (length (next ∷ text))))) in
    whole
    ∙ ap (with_byte byte) (later some)
    ∙ turn (position_or_len is_line_feed (next ∷ text))
    ∙ ap (λ n. lines_behind n (byte ∷ next ∷ text)) (sym len)

pub text_lines-first : (text : List ℕ) (len : ℕ) → len ≡ position_or_len is_line_feed text → 0 < length text → text_lines text ≡ lines_behind len text
text_lines-first [] len is some = absurd (omega arith)
text_lines-first (byte ∷ text) len is some = by_byte byte text (is_line_feed byte) refl (λ more. text_lines-first text (position_or_len is_line_feed text) refl more) ∙ ap (λ n. lines_behind n (byte ∷ text)) (sym is)

module _ (inputs first : ℕ) (rows : List (List Bool)) (text : List ℕ) (len : ℕ) (is : len ≡ position_or_len is_line_feed text) (some : 0 < length text) where
  next : (wrong : Option RowKind) → wrong ≡ wrong_in (length rows) inputs (front_line len text) → rows_of_lines inputs first rows (text_lines text) ≡ (row_of_line (first + length rows) (front_line len text) wrong >>= λ row. rows_of_lines inputs first (rows ++ row ∷ []) (text_lines (drop (len + 1) text)))
  next wrong e =
      ap (rows_of_lines inputs first rows) (text_lines-first text len is some)
      ∙ ap (λ w. row_of_line (first + length rows) (front_line len text) w >>= λ row. rows_of_lines inputs first (rows ++ row ∷ []) (text_lines (drop (len + 1) text))) (sym e)

  -- a line that is no row ends it
  pub rows_of_lines-fault : (kind : RowKind) → Some kind ≡ wrong_in (length rows) inputs (front_line len text) → rows_of_lines inputs first rows (text_lines text) ≡ Err (record { line = first + length rows; kind = kind })
  rows_of_lines-fault kind e = next (Some kind) e

  -- and else its row goes behind those before
  pub rows_of_lines-row : None ≡ wrong_in (length rows) inputs (front_line len text) → rows_of_lines inputs first (rows ++ map is_one (take len text) ∷ []) (text_lines (drop (len + 1) text)) ≡ rows_of_lines inputs first rows (text_lines text)
  rows_of_lines-row e = sym (next None e)

-- Where nothing is wrong, there is room for the row.
pub few_before : (inputs : ℕ) (rows : List (List Bool)) (it : TextLine) (row : List Bool) → None ≡ wrong_in (length rows) inputs it → length (rows ++ row ∷ []) ≤ MAX_ROWS
few_before inputs rows it row e = by (nat_le MAX_ROWS (length rows)) refl e
  where
    by : (many : Bool) → nat_le MAX_ROWS (length rows) ≡ many → None ≡ (if many then Some TooManyRows else if not (it.is_ended && length it.bytes == inputs) then Some RowShape else if not (list_all is_bit it.bytes) then Some RowChar else None) → length (rows ++ row ∷ []) ≤ MAX_ROWS
    by true many e = absurd (cc)
    by false many e = let few : length rows < MAX_ROWS = grind (arith, nat_tests) in let long : length (rows ++ row ∷ []) ≡ length rows + 1 = length-append rows (row ∷ []) in omega (arith, few, long)
