-- Names that become numbers: the signals of a line, in the order of its tokens.
use Rattle.std.specs.Prelude.{ℕ, Bool, nat_lt, List, [], ◌∷◌, length}
use Rattle.net_base.specs.declared.name.TheConstants.{MAX_NAME_BYTES}
use Rattle.blif_model.specs.Names.{number_of, with_name}

-- more bytes than a name may have
abbrev pub is_long : List ℕ → Bool
is_long token = nat_lt MAX_NAME_BYTES (length token)

-- the names with those of these tokens, of which the new ones go last, in order
abbrev pub with_names : List (List ℕ) → List (List ℕ) → List (List ℕ)
with_names [] names = names
with_names (token ∷ tokens) names = with_names tokens (with_name token names)

-- the signals of tokens, behind these names: the numbers of their names
abbrev pub signals_of : List (List ℕ) → List (List ℕ) → List ℕ
signals_of [] names = []
signals_of (token ∷ tokens) names = number_of token names ∷ signals_of tokens (with_name token names)
