-- The first part of a text, and the parts behind it.
use Rattle.std.proofs.Common.{◌≡◌, ◌<◌, ◌+◌, ℕ, suc, Bool, true, false, List, [], ◌∷◌, length, take, drop, refl, sym, ap, ◌∙◌, arith}
use Rattle.std.specs.List.{position_or_len}
use Rattle.blif_lex.specs.Parts.{Part, cut_at, with_byte}

module _ (is_separator : ℕ → Bool) where
  -- the parts of a text whose first part has a length
  abbrev pub cut_behind : ℕ → ℕ → List ℕ → List Part
  cut_behind len start text = record { start = start; bytes = take len text } ∷ cut_at is_separator (start + (len + 1)) (drop (len + 1) text)

  separator_first : (start byte : ℕ) (text : List ℕ) → is_separator byte ≡ true → cut_at is_separator start (byte ∷ text) ≡ cut_behind (position_or_len is_separator (byte ∷ text)) start (byte ∷ text)
  separator_first start byte text is = rw is refl

  byte_first : (start byte len : ℕ) (text : List ℕ) → with_byte start byte (cut_behind len (start + 1) text) ≡ cut_behind (suc len) start (byte ∷ text)
  byte_first start byte len text =
      let place : start + 1 + (len + 1) ≡ start + (suc len + 1) = omega arith in
      let size : suc len + 1 ≡ suc (len + 1) = omega arith in
      rw (place, size) refl

  by_byte : (start byte : ℕ) (text : List ℕ) (is_one : Bool) → is_separator byte ≡ is_one
      → (0 < length text → cut_at is_separator (start + 1) text ≡ cut_behind (position_or_len is_separator text) (start + 1) text)
      → cut_at is_separator start (byte ∷ text) ≡ cut_behind (position_or_len is_separator (byte ∷ text)) start (byte ∷ text)
  by_byte start byte text true is later = separator_first start byte text is
  by_byte start byte [] false is later = rw is refl
  by_byte start byte (next ∷ text) false is later =
      let some : 0 < length (next ∷ text) = omega arith in
      let whole : cut_at is_separator start (byte ∷ next ∷ text) ≡ with_byte start byte (cut_at is_separator (start + 1) (next ∷ text)) = rw is refl in
      let len : position_or_len is_separator (byte ∷ next ∷ text) ≡ suc (position_or_len is_separator (next ∷ text)) = rw is (omega arith) in
      whole
      ∙ ap (with_byte start byte) (later some)
      ∙ byte_first start byte (position_or_len is_separator (next ∷ text)) (next ∷ text)
      ∙ ap (λ n. cut_behind n start (byte ∷ next ∷ text)) (sym len)

  -- The first part of a text that isn't empty goes up to its first separator, or to the end; then come the parts behind it.
  pub cut_at-first : (start : ℕ) (text : List ℕ) → 0 < length text → cut_at is_separator start text ≡ cut_behind (position_or_len is_separator text) start text
  cut_at-first start [] some = absurd (omega arith)
  cut_at-first start (byte ∷ text) some = by_byte start byte text (is_separator byte) refl (cut_at-first (start + 1) text)
