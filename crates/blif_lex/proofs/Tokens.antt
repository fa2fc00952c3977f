-- One turn of the loop over the parts of a line: a part that isn't empty is a token.
use Rattle.std.proofs.Common.{◌≡◌, ◌<◌, ◌+◌, ◌++◌, ℕ, true, nat_le, List, [], ◌∷◌, length, take, drop, map, refl, sym, ap, ◌∙◌, append_assoc, arith}
use Rattle.std.specs.List.{filter, position_or_len}
use Rattle.std.proofs.lemmas.List.Folds.{length-prefix_len}
use Rattle.std.proofs.lemmas.Bool.Decides.{nat_tests}
use Rattle.blif_lex.specs.declared.line.Span.{Span}
use Rattle.blif_lex.specs.Parts.{Part, cut_at}
use Rattle.blif_lex.specs.PhysicalLines.{is_blank}
use Rattle.blif_lex.specs.LogicalLines.{span_of, tokens_at}
use Rattle.blif_lex.proofs.Cutting.{cut_behind, cut_at-first}

abbrev tokens_of : List Part → List Span
tokens_of parts = map span_of (filter (λ part. nat_le 1 (length part.bytes)) parts)

tokens_of-word : (part : Part) (parts : List Part) (len : ℕ) → length part.bytes ≡ len → 0 < len → tokens_of (part ∷ parts) ≡ record { start = part.start; end = part.start + len } ∷ tokens_of parts
tokens_of-word part parts len is some =
    let test : nat_le 1 (length part.bytes) ≡ true = grind (arith, nat_tests) in
    rw (test, is) refl

tokens_of-empty : (part : Part) (parts : List Part) → length part.bytes ≡ 0 → tokens_of (part ∷ parts) ≡ tokens_of parts
tokens_of-empty part parts is = rw is refl

module _ (start : ℕ) (text : List ℕ) (len : ℕ) (is : len ≡ position_or_len is_blank text) (some : 0 < length text) where
  first : tokens_at start text ≡ tokens_of (cut_behind is_blank len start text)
  unfolding tokens_at
  first = ap tokens_of (cut_at-first is_blank start text some ∙ ap (λ n. cut_behind is_blank n start text) (sym is))

  long : length (take len text) ≡ len
  long = rw is (length-prefix_len _ text)

  -- a blank at the front
  pub tokens_at-blank : len ≡ 0 → tokens_at start text ≡ tokens_at (start + (len + 1)) (drop (len + 1) text)
  unfolding tokens_at
  tokens_at-blank none = first ∙ tokens_of-empty _ (cut_at is_blank (start + (len + 1)) (drop (len + 1) text)) (long ∙ none)

  -- a token at the front
  pub tokens_at-word : 0 < len → tokens_at start text ≡ record { start = start; end = start + len } ∷ tokens_at (start + (len + 1)) (drop (len + 1) text)
  unfolding tokens_at
  tokens_at-word word = first ∙ tokens_of-word _ (cut_at is_blank (start + (len + 1)) (drop (len + 1) text)) len long word

  -- so the tokens before, then those of the text, are the same with the front moved from the text to the tokens before
  pub add-blank : (before : List Span) → len ≡ 0 → before ++ tokens_at (start + (len + 1)) (drop (len + 1) text) ≡ before ++ tokens_at start text
  add-blank before none = ap (λ spans. before ++ spans) (sym (tokens_at-blank none))

  pub add-word : (before : List Span) → 0 < len → (before ++ record { start = start; end = start + len } ∷ []) ++ tokens_at (start + (len + 1)) (drop (len + 1) text) ≡ before ++ tokens_at start text
  add-word before word =
      let span : Span = record { start = start; end = start + len } in
      append_assoc before (span ∷ []) (tokens_at (start + (len + 1)) (drop (len + 1) text)) ∙ ap (λ spans. before ++ spans) (sym (tokens_at-word word))

pub tokens_at-none : (start : ℕ) (text : List ℕ) → length text ≡ 0 → tokens_at start text ≡ []
unfolding tokens_at
tokens_at-none start [] none = refl
tokens_at-none start (byte ∷ text) none = absurd (omega arith)
