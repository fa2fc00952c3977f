-- What a read does to the bytes that are still to come.
use Rattle.std.specs.Prelude.{ℕ, ◌≡◌, ◌≤◌, ◌↔◌, List, [], length, take, drop, Option, Some, None}

-- k bytes came from the front of the text into the front of the buffer; none come exactly at the text's end
pub record TakesFront (text : List ℕ) (left : Option (List ℕ)) (buf : List ℕ) (k : ℕ) : Type 0 where
  pub rest : left ≡ Some (drop k text)
  pub front : take k buf ≡ take k text
  pub inside : k ≤ length text
  pub at_end : (k ≡ 0) ↔ (text ≡ [])

-- the same of what a source tells; one that tells nothing goes on telling nothing
abbrev pub MovesFront : Option (List ℕ) → Option (List ℕ) → List ℕ → ℕ → Type 0
MovesFront None after buf k = after ≡ None
MovesFront (Some text) after buf k = TakesFront text after buf k
