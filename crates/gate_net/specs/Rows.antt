-- Rows of gates: when two are equal, the place of the first equal one, and the list with a row that is added only once.
use Rattle.std.specs.Prelude.{◌≡◌, ◌≢◌, ◌==◌, ◌&&◌, ◌<◌, ◌++◌, ℕ, Bool, false, cond, List, [], ◌∷◌, length, position, is_some, unwrap_or, Some, slice_get, Option}
use Rattle.std.specs.Cmp.Lexicographic.{pointwise}
use Rattle.std.specs.HashMap.{HashMap, get}
use Rattle.std.specs.declared.hash.FoldHasher.{FoldHasher}
use Rattle.std.specs.declared.hash.BuildHasherDefault.{BuildHasherDefault}
use Rattle.cell_lib.specs.Cell.{rank_of}
use Rattle.gate_net.specs.declared.row.Driver.{Driver}
use Rattle.gate_net.specs.declared.row.Driver.TheVariants.{Input, Gate}
use Rattle.gate_net.specs.declared.row.GateRow.{GateRow}

-- whether two drivers are one
abbrev pub same_driver : Driver → Driver → Bool
same_driver (Input i) (Input j) = i == j
same_driver (Input i) (Gate k) = false
same_driver (Gate k) (Input i) = false
same_driver (Gate j) (Gate k) = j == k

-- whether two gates are equal: the same cell, with the same drivers at its pins
abbrev pub same_row : GateRow → GateRow → Bool
same_row g h = (rank_of g.cell == rank_of h.cell) && pointwise same_driver g.pins h.pins

-- the place of the first gate that is equal to this one
abbrev pub first_place : GateRow → List GateRow → Option ℕ
first_place row rows = position (same_row row) rows

-- its place once it is among the gates: that of the first equal one, or else the end
abbrev pub gate_place : GateRow → List GateRow → ℕ
gate_place row rows = unwrap_or (first_place row rows) (length rows)

-- the gates, with this one at the end unless an equal one is there
abbrev pub with_row : GateRow → List GateRow → List GateRow
with_row row rows = cond (is_some (first_place row rows)) rows (rows ++ row ∷ [])

-- the gate stands at the place, and at no earlier one
pub record IsFirstPlace (row : GateRow) (rows : List GateRow) (place : ℕ) : Type 0 where
  pub here : slice_get rows place ≡ Some row
  pub first : (earlier : ℕ) → earlier < place → slice_get rows earlier ≢ Some row

-- a map from a gate to its first place
abbrev pub FindsFirst : (GateRow → GateRow → Bool) → HashMap GateRow ℕ (BuildHasherDefault FoldHasher) → List GateRow → Type 0
FindsFirst equal index rows = (row : GateRow) → get equal index row ≡ first_place row rows

-- the new map has this place for the gate, and is else the old one
abbrev pub NotesPlace : (GateRow → GateRow → Bool) → HashMap GateRow ℕ (BuildHasherDefault FoldHasher) → HashMap GateRow ℕ (BuildHasherDefault FoldHasher) → GateRow → ℕ → Type 0
NotesPlace equal old new row place = (other : GateRow) → get equal new other ≡ cond (equal row other) (Some place) (get equal old other)
