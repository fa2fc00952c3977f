-- Rows and the words of cuts: a row of at most eight cuts has their words, and its words tell the cuts.
use Rattle.std.proofs.Common.{◌≡◌, ◌≤◌, ◌<◌, ◌+◌, ◌-◌, ◌*◌, ◌/◌, ◌++◌, ◌∙◌, ℕ, zero, suc, List, [], ◌∷◌, get_or, length, take, drop, replicate, refl, sym, ap, arith}
use Rattle.std.proofs.Math.Seq.{take-append-add}
use Rattle.std.proofs.lemmas.List.{take_at, get_or_append_left, take-replicate, drop-replicate}
use Rattle.cut_word.specs.Cut.{CutView}
use Rattle.cut_word.specs.Word.{first_word}
use Rattle.cut_lists.specs.declared.row.Row.{Row}
use Rattle.cut_lists.specs.Rows.{words_of, row_with, words_in, IsRowOf}

-- ---- The words of cuts
pub length-words_of : (cuts : List CutView) → length (words_of cuts) ≡ 2 * length cuts
length-words_of [] = refl
length-words_of (cut ∷ cuts) = omega (arith, length-words_of cuts)

pub words_of-append : (cuts more : List CutView) → words_of (cuts ++ more) ≡ words_of cuts ++ words_of more
words_of-append [] more = refl
words_of-append (cut ∷ cuts) more = ap (λ ws. first_word cut.leaves ∷ cut.table ∷ ws) (words_of-append cuts more)

twice : (k : ℕ) → 2 * suc k ≡ suc (suc (2 * k))
twice k = omega arith

twice_more : (k : ℕ) → 2 * suc k + 1 ≡ suc (suc (2 * k + 1))
twice_more k = omega arith

-- A cut's words stand at twice its place.
pub first_at : (cuts : List CutView) (k : ℕ) (d : CutView) → k < length cuts → get_or (words_of cuts) (2 * k) 0 ≡ first_word (get_or cuts k d).leaves
first_at [] k d h = absurd (omega arith)
first_at (cut ∷ cuts) zero d h = refl
first_at (cut ∷ cuts) (suc k) d h = ap (λ n. get_or (words_of (cut ∷ cuts)) n 0) (twice k) ∙ first_at cuts k d (omega arith)

pub second_at : (cuts : List CutView) (k : ℕ) (d : CutView) → k < length cuts → get_or (words_of cuts) (2 * k + 1) 0 ≡ (get_or cuts k d).table
second_at [] k d h = absurd (omega arith)
second_at (cut ∷ cuts) zero d h = refl
second_at (cut ∷ cuts) (suc k) d h = ap (λ n. get_or (words_of (cut ∷ cuts)) n 0) (twice_more k) ∙ second_at cuts k d (omega arith)

-- ---- Rows of words
half : (n : ℕ) → 2 * n / 2 ≡ n
half n = omega arith

-- Sixteen words at most are followed by zeros up to sixteen.
padded : (ws : List ℕ) (n : ℕ) → length ws ≡ n → n ≤ 16 → take 16 (ws ++ replicate 16 0) ≡ ws ++ replicate (16 - n) 0
padded ws n len few =
    let whole : 16 ≡ length ws + (16 - n) = omega arith in
    ap (λ k. take k (ws ++ replicate 16 0)) whole ∙ take-append-add ws (replicate 16 0) (16 - n)
    ∙ ap (λ zs. ws ++ zs) (take-replicate (16 - n) 16 0 (omega arith))

made_row : ℕ → List ℕ → Row
made_row len words = record { len = len; words = words }

-- A row of this number of cuts, with their words and zeros behind them, is the row of the words.
pub row_with-made : (ws words : List ℕ) (n m : ℕ) → length ws ≡ 2 * n → m ≡ n → n ≤ 8 → words ≡ ws ++ replicate (16 - 2 * n) 0 → record { len = m; words = words } ≡ row_with ws
unfolding row_with made_row
row_with-made ws words n m len same few is =
    let number : m ≡ length ws / 2 = same ∙ sym (half n) ∙ ap (λ k. k / 2) (sym len) in
    ap (λ k. made_row k words) number ∙ ap (made_row (length ws / 2)) (is ∙ sym (padded ws (2 * n) len (omega arith)))

pub len-row_with : (ws : List ℕ) (n : ℕ) → length ws ≡ 2 * n → (row_with ws).len ≡ n
unfolding row_with
len-row_with ws n len = ap (λ k. k / 2) len ∙ half n

pub words-row_with : (ws : List ℕ) (n : ℕ) → length ws ≡ 2 * n → n ≤ 8 → (row_with ws).words ≡ ws ++ replicate (16 - 2 * n) 0
unfolding row_with
words-row_with ws n len few = padded ws (2 * n) len (omega arith)

-- The words that are used are the words.
pub words_in-row_with : (ws : List ℕ) (n : ℕ) → length ws ≡ 2 * n → n ≤ 8 → words_in (row_with ws) ≡ ws
words_in-row_with ws n len few =
    ap (λ k. take (2 * k) (row_with ws).words) (len-row_with ws n len)
    ∙ ap (take (2 * n)) (words-row_with ws n len few) ∙ take_at ws (replicate (16 - 2 * n) 0) (2 * n) len

-- ---- Rows of cuts
pub len-IsRowOf : (cuts : List CutView) (row : Row) → IsRowOf cuts row → row.len ≡ length cuts
len-IsRowOf cuts row is = ap (λ (r : Row). r.len) is.is ∙ len-row_with (words_of cuts) (length cuts) (length-words_of cuts)

word-IsRowOf : (cuts : List CutView) (row : Row) (n : ℕ) → IsRowOf cuts row → n < 2 * length cuts → get_or row.words n 0 ≡ get_or (words_of cuts) n 0
word-IsRowOf cuts row n is within =
    ap (λ (r : Row). get_or r.words n 0) is.is
    ∙ ap (λ ws. get_or ws n 0) (words-row_with (words_of cuts) (length cuts) (length-words_of cuts) is.few)
    ∙ get_or_append_left (words_of cuts) (replicate (16 - 2 * length cuts) 0) 0 n (omega (arith, length-words_of cuts))

-- The words at a cut's places are the cut's.
pub first-IsRowOf : (cuts : List CutView) (row : Row) (k : ℕ) (d : CutView) → IsRowOf cuts row → k < length cuts → get_or row.words (2 * k) 0 ≡ first_word (get_or cuts k d).leaves
first-IsRowOf cuts row k d is within = word-IsRowOf cuts row (2 * k) is (omega arith) ∙ first_at cuts k d within

pub second-IsRowOf : (cuts : List CutView) (row : Row) (k : ℕ) (d : CutView) → IsRowOf cuts row → k < length cuts → get_or row.words (2 * k + 1) 0 ≡ (get_or cuts k d).table
second-IsRowOf cuts row k d is within = word-IsRowOf cuts row (2 * k + 1) is (omega arith) ∙ second_at cuts k d within

-- Words that are copied over zeros are a row.
pub row_with-copied : (n : ℕ) (ws copied : List ℕ) → n ≤ 8 → length copied ≡ 2 * n → copied ≡ take (2 * n) ws → record { len = n; words = copied ++ drop (2 * n) (replicate 16 0) } ≡ row_with (take (2 * n) ws)
row_with-copied n ws copied few len is =
    row_with-made (take (2 * n) ws) (copied ++ drop (2 * n) (replicate 16 0)) n n (ap length (sym is) ∙ len) refl few
    (ap (λ zs. copied ++ zs) (drop-replicate (2 * n) 16 0) ∙ ap (λ xs. xs ++ replicate (16 - 2 * n) 0) is)
