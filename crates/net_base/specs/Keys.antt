-- Keys among others.
use Rattle.std.specs.Prelude.{Bool, List, [], ◌∷◌, ◌++◌, cond, fold}
use Rattle.std.specs.List.{list_any}

module _ {K : Type 0} (same : K → K → Bool) where
  -- whether a key is among others, by a test that tells equal keys
  abbrev pub is_among : K → List K → Bool
  is_among key keys = list_any (same key) keys

  -- keys with one more, which goes last unless it is there
  abbrev pub with_key : List K → K → List K
  with_key keys key = cond (is_among key keys) keys (keys ++ key ∷ [])

  -- and with each of others in turn
  abbrev pub with_keys : List K → List K → List K
  with_keys keys others = fold with_key keys others
