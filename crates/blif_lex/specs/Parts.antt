-- The parts of a text between separators, each with the place where it begins. Lines are the parts between line feeds, and
-- tokens those between blanks.
use Rattle.std.specs.Prelude.{ℕ, ◌+◌, Bool, List, [], ◌∷◌, if◌then◌else◌}

-- bytes of a text, and the place of the first of them
pub record Part : Type 0 where
  pub start : ℕ
  pub bytes : List ℕ

-- one more byte, at its place, at the front of the first of these parts
abbrev pub with_byte : ℕ → ℕ → List Part → List Part
with_byte start byte [] = record { start = start; bytes = byte ∷ [] } ∷ []
with_byte start byte (part ∷ parts) = record { start = start; bytes = byte ∷ part.bytes } ∷ parts

-- The parts of a text that begins at a place. Each separator ends a part, and isn't in it; behind the last separator there
-- is a part only where it isn't empty.
abbrev pub cut_at : (ℕ → Bool) → ℕ → List ℕ → List Part
cut_at is_separator start [] = []
cut_at is_separator start (byte ∷ text) =
    if is_separator byte
    then record { start = start; bytes = [] } ∷ cut_at is_separator (start + 1) text
    else with_byte start byte (cut_at is_separator (start + 1) text)
