-- The names of models, signals, inputs and outputs.
use Rattle.std.specs.Prelude.{ℕ, ◌≤◌, ◌≢◌, List, length, All}
use Rattle.net_base.specs.declared.name.TheConstants.{MAX_NAME_BYTES}

-- a byte that may stand in a name: visible ASCII, and not the sign `#` that begins a comment
abbrev pub IsNameByte : ℕ → Type 0
IsNameByte byte = (33 ≤ byte) × (byte ≤ 126) × (byte ≢ 35)

-- what a name is made of
pub record IsName (bytes : List ℕ) : Type 0 where
  pub some : 1 ≤ length bytes
  pub short : length bytes ≤ MAX_NAME_BYTES
  pub visible : All IsNameByte bytes
