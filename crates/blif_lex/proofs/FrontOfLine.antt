-- What is read of a line is its front, and behind it stands what is dropped: from a carriage return, a `#`, a blank or a
-- backslash on.
use Rattle.std.proofs.Common.{◌≡◌, ◌<◌, ◌≤◌, ◌-◌, ◌++◌, ◌∷◌, ◌==◌, ◌⊎◌, inl, inr, ℕ, Bool, true, false, not, List, [], length, take, drop, get_or, reverse, refl, sym, ap, subst, ◌∙◌, append_assoc, append-nil, arith, if◌then◌else◌}
use Rattle.std.specs.List.{suffix_len, position_or_len}
use Rattle.std.proofs.lemmas.Bool.{cases_lt, not-false}
use Rattle.std.proofs.lemmas.Bool.Decides.{Decides-eqb}
use Rattle.std.proofs.lemmas.List.{get_or-reverse, take-append-drop, length-reverse}
use Rattle.std.proofs.lemmas.List.Sums.{prefix_len_stops, prefix_len_passes, prefix_len-le-length}
use Rattle.std.proofs.Math.ListN.{drop_of_length-le}
use Rattle.std.proofs.Math.Seq.{drop-cons}
use Rattle.blif_lex.specs.PhysicalLines.{is_blank, is_hash, ends_in, without_last_byte, without_carriage_return, without_comment, without_last_blanks, kept, is_joined, content}
use Rattle.blif_lex.specs.Separators.{BeginsBy, is_behind}

pub BeginsBy-append : (test : ℕ → Bool) (bytes others : List ℕ) → BeginsBy test bytes → BeginsBy test others → BeginsBy test (bytes ++ others)
BeginsBy-append test [] others begins more = more
BeginsBy-append test (byte ∷ bytes) others begins more = begins

-- a line from its front on, and what begins behind it
pub record IsFront (line front : List ℕ) : Type 0 where
  pub behind : List ℕ
  pub whole : line ≡ front ++ behind
  pub back : BeginsBy is_behind behind

whole_line : (line : List ℕ) → IsFront line line
whole_line line = record { behind = []; whole = sym (append-nil line); back = tt }

front_of_front : (line front inner : List ℕ) → IsFront line front → IsFront front inner → IsFront line inner
front_of_front line front inner outer is = record {
  behind = is.behind ++ outer.behind;
  whole = outer.whole ∙ ap (λ bytes. bytes ++ outer.behind) is.whole ∙ append_assoc inner is.behind outer.behind;
  back = BeginsBy-append is_behind is.behind outer.behind is.back outer.back;
}

-- the front of a length
drop_by : (line : List ℕ) (k : ℕ) → (k < length line → is_behind (get_or line k 0) ≡ true) → (k < length line) ⊎ (length line ≤ k) → BeginsBy is_behind (drop k line)
drop_by line k here (inl within) = rw (drop-cons line k 0 within) (here within)
drop_by line k here (inr beyond) = rw (drop_of_length-le line beyond) tt

front_take : (line : List ℕ) (k : ℕ) → (k < length line → is_behind (get_or line k 0) ≡ true) → IsFront line (take k line)
front_take line k here = record { behind = drop k line; whole = sym (take-append-drop k line); back = drop_by line k here (cases_lt k (length line)) }

-- the bytes that are behind
same_byte : (byte other : ℕ) → (byte == other) ≡ true → is_behind other ≡ true → is_behind byte ≡ true
same_byte byte other is behind = let P : ℕ → Type 0 = λ b. is_behind b ≡ true in subst P (sym ((Decides-eqb byte other).0 is)) behind

blank-behind : (byte : ℕ) → is_blank byte ≡ true → is_behind byte ≡ true
blank-behind byte is = rw is refl

-- without the last byte, where that is one that may be behind
front_by : (line : List ℕ) (byte : ℕ) (is_one : Bool) → ends_in byte line ≡ is_one → is_behind byte ≡ true → IsFront line (if is_one then without_last_byte line else line)
front_by line byte true is behind = front_take line (length line - 1) (λ _. same_byte (get_or line (length line - 1) 0) byte is behind)
front_by line byte false is behind = whole_line line

without_carriage_return-IsFront : (line : List ℕ) → IsFront line (without_carriage_return line)
unfolding without_carriage_return
without_carriage_return-IsFront line = front_by line 13 (ends_in 13 line) refl refl

without_comment-IsFront : (line : List ℕ) → IsFront line (without_comment line)
unfolding without_comment
without_comment-IsFront line =
    let k = position_or_len is_hash line in
    front_take line k (λ within. same_byte (get_or line k 0) 35 (not-false _ (prefix_len_stops (λ byte. not (is_hash byte)) line 0 within)) refl)

without_last_blanks-IsFront : (line : List ℕ) → IsFront line (without_last_blanks line)
unfolding without_last_blanks
without_last_blanks-IsFront line =
    let k = length line - suffix_len is_blank line in
    front_take line k (λ within.
    let few : suffix_len is_blank line ≤ length line = omega (arith, prefix_len-le-length is_blank (reverse line), length-reverse line) in
    let j = length line - 1 - k in
    let last : j < suffix_len is_blank line = omega arith in
    let place : length line - 1 - j ≡ k = omega arith in
    let here = prefix_len_passes is_blank (reverse line) j 0 last in
    let same : get_or (reverse line) j 0 ≡ get_or line k 0 = get_or-reverse line j 0 (omega arith) ∙ ap (λ n. get_or line n 0) place in
    blank-behind (get_or line k 0) (ap is_blank (sym same) ∙ here))

kept-IsFront : (line : List ℕ) → IsFront line (kept line)
unfolding kept
kept-IsFront line =
    let front = without_carriage_return line in
    front_of_front line front (kept line) (without_carriage_return-IsFront line)
    (front_of_front front (without_comment front) (kept line) (without_comment-IsFront front) (without_last_blanks-IsFront (without_comment front)))

pub content-IsFront : (line : List ℕ) → IsFront line (content line)
unfolding content is_joined
content-IsFront line = front_of_front line (kept line) (content line) (kept-IsFront line) (front_by (kept line) 92 (ends_in 92 (kept line)) refl refl)
