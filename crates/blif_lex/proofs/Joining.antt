-- One turn of the loop over physical lines: a line is joined to the line so far.
use Rattle.std.proofs.Common.{◌≡◌, ◌<◌, ◌≤◌, ◌+◌, ◌-◌, ◌++◌, ◌||◌, min, ℕ, Bool, true, false, List, [], ◌∷◌, length, take, drop, refl, sym, ap, ◌∙◌, append_assoc, arith, length-drop, ◌⊎◌, inl, inr}
use Rattle.std.specs.List.{position_or_len, list_any}
use Rattle.std.proofs.lemmas.List.{drop-drop}
use Rattle.std.proofs.lemmas.Bool.{cases_lt}
use Rattle.std.proofs.Math.ListN.{drop_of_length-le}
use Rattle.std.proofs.Math.Seq.{take-length}
use Rattle.std.proofs.Math.Bool.{or_assoc}
use Rattle.blif_lex.specs.declared.line.LogicalLine.{LogicalLine}
use Rattle.blif_lex.specs.Parts.{Part}
use Rattle.blif_lex.specs.PhysicalLines.{is_line_feed, is_bad_byte, is_joined, content, cut_at_line_feeds}
use Rattle.blif_lex.specs.LogicalLines.{line_of, one_line, joined, all_from, tokens_at}
use Rattle.blif_lex.proofs.Cutting.{cut_behind, cut_at-first}

joined-assoc : (line next : LogicalLine) (lines : List LogicalLine) → joined line (joined next lines) ≡ joined (one_line line next) lines
joined-assoc line next [] = refl
joined-assoc line next (third ∷ lines) = rw (← or_assoc line.bad next.bad third.bad, ← append_assoc line.tokens next.tokens third.tokens) refl

-- a line without any byte, of a number
abbrev pub no_line : ℕ → LogicalLine
no_line number = record { line = number; bad = false; tokens = [] }

no_line-joined : (number : ℕ) (part : Part) (lines : List LogicalLine) → joined (no_line number) (joined (line_of number part) lines) ≡ joined (line_of number part) lines
unfolding line_of
no_line-joined number part [] = refl
no_line-joined number part (next ∷ lines) = refl

no_line-alone : (number : ℕ) (part : Part) (lines : List LogicalLine) → joined (no_line number) (line_of number part ∷ lines) ≡ line_of number part ∷ lines
unfolding line_of
no_line-alone number part lines = refl

module _ (number at : ℕ) (text : List ℕ) (short : at < length text) (rest : List ℕ) (from : rest ≡ drop at text) (len : ℕ) (is : len ≡ position_or_len is_line_feed rest) (next : ℕ) (goes : next ≡ min (at + (len + 1)) (length text)) where
  -- the physical line here
  abbrev here : Part
  here = record { start = at; bytes = take len rest }

  behind : drop (len + 1) rest ≡ drop (at + (len + 1)) text
  behind = ap (drop (len + 1)) from ∙ drop-drop (len + 1) at text

  others_by : (length text < at + (len + 1)) ⊎ (at + (len + 1) ≤ length text) → cut_at_line_feeds (at + (len + 1)) (drop (len + 1) rest) ≡ cut_at_line_feeds next (drop next text)
  others_by (inr within) =
      let same : at + (len + 1) ≡ next = omega arith in
      rw (← same) (ap (cut_at_line_feeds (at + (len + 1))) behind)
  others_by (inl beyond) =
      let end : next ≡ length text = omega arith in
      let none : drop (len + 1) rest ≡ [] = behind ∙ drop_of_length-le text (omega arith) in
      let none_too : drop next text ≡ [] = drop_of_length-le text (omega arith) in
      rw (none, none_too) refl

  others : cut_at_line_feeds (at + (len + 1)) (drop (len + 1) rest) ≡ cut_at_line_feeds next (drop next text)
  others = others_by (cases_lt (length text) (at + (len + 1)))

  parts : cut_at_line_feeds at (drop at text) ≡ here ∷ cut_at_line_feeds next (drop next text)
  parts =
      let some : 0 < length rest = omega (arith, length-drop at text, ap length from) in
      ap (cut_at_line_feeds at) (sym from)
      ∙ cut_at-first is_line_feed at rest some
      ∙ ap (λ n. cut_behind is_line_feed n at rest) (sym is)
      ∙ ap (λ more. here ∷ more) others

  all_from-joined : is_joined here.bytes ≡ true → all_from number at text ≡ joined (line_of number here) (all_from (number + 1) next text)
  unfolding all_from
  all_from-joined is_one = rw (parts, is_one) refl

  all_from-alone : is_joined here.bytes ≡ false → all_from number at text ≡ line_of number here ∷ all_from (number + 1) next text
  unfolding all_from
  all_from-alone is_none = rw (parts, is_none) refl

  -- The line so far with the physical line here is what the code makes of both.
  abbrev made : LogicalLine → LogicalLine
  made line = record { line = line.line; bad = line.bad || list_any is_bad_byte (content here.bytes); tokens = line.tokens ++ tokens_at at (content here.bytes) }

  made-one_line : (line : LogicalLine) → made line ≡ one_line line (line_of number here)
  unfolding line_of
  made-one_line line = refl

  pub turn-joined : (line new : LogicalLine) → new ≡ made line → is_joined here.bytes ≡ true → joined new (all_from (number + 1) next text) ≡ joined line (all_from number at text)
  turn-joined line new is_new is_one =
      ap (λ one. joined one (all_from (number + 1) next text)) (is_new ∙ made-one_line line)
      ∙ sym (joined-assoc line (line_of number here) (all_from (number + 1) next text))
      ∙ ap (joined line) (sym (all_from-joined is_one))

  pub turn-alone : (line new : LogicalLine) → new ≡ made line → is_joined here.bytes ≡ false → new ∷ all_from (number + 1) next text ≡ joined line (all_from number at text)
  turn-alone line new is_new is_none =
      ap (λ one. one ∷ all_from (number + 1) next text) (is_new ∙ made-one_line line) ∙ ap (joined line) (sym (all_from-alone is_none))

  starts_by : (is_one : Bool) → is_joined here.bytes ≡ is_one → joined (no_line number) (all_from number at text) ≡ all_from number at text
  starts_by true is_one =
      ap (joined (no_line number)) (all_from-joined is_one) ∙ no_line-joined number here (all_from (number + 1) next text) ∙ sym (all_from-joined is_one)
  starts_by false is_none =
      ap (joined (no_line number)) (all_from-alone is_none) ∙ no_line-alone number here (all_from (number + 1) next text) ∙ sym (all_from-alone is_none)

-- Before the first physical line nothing is read.
pub all_from-start : (number at : ℕ) (text : List ℕ) → at < length text → joined (no_line number) (all_from number at text) ≡ all_from number at text
all_from-start number at text short =
    let len = position_or_len is_line_feed (drop at text) in
    starts_by number at text short (drop at text) refl len refl (min (at + (len + 1)) (length text)) refl (is_joined (take len (drop at text))) refl

-- Behind the last one no line is left.
pub all_from-end : (number at : ℕ) (text : List ℕ) → length text ≤ at → all_from number at text ≡ []
unfolding all_from
all_from-end number at text beyond = rw (drop_of_length-le text beyond) refl

-- What stands behind a place of a text, as code spells it.
pub drop-all : (at : ℕ) (text : List ℕ) → take (length text - at) (drop at text) ≡ drop at text
drop-all at text = ap (λ n. take n (drop at text)) (sym (length-drop at text)) ∙ take-length (drop at text)
