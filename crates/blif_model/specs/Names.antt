-- The names of signals: the number of a signal is the place of its name, in order of first appearance.
use Rattle.std.specs.Prelude.{ℕ, List, [], ◌∷◌, ◌++◌, if◌then◌else◌}
use Rattle.std.specs.List.{IsDistinct, position_or_len}
use Rattle.std.specs.Str.{bytes_eq}
use Rattle.net_base.specs.Keys.{is_among}

-- the number of a name: its place, or the next one where it is new
abbrev pub number_of : List ℕ → List (List ℕ) → ℕ
number_of name names = position_or_len (bytes_eq name) names

-- the names with this one, which goes last where it is new
abbrev pub with_name : List ℕ → List (List ℕ) → List (List ℕ)
with_name name names = if is_among bytes_eq name names then names else names ++ name ∷ []

-- no name stands twice
abbrev pub AreDistinctNames : List (List ℕ) → Type 0
AreDistinctNames names = IsDistinct bytes_eq names
