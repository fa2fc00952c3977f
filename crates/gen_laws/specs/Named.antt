-- Designs by their names, as texts say them, whose tables stand behind those that drive their pins; and accepted texts.
use Rattle.std.specs.Prelude.{◌≡◌, ◌≤◌, ℕ, Bool, true, false, List, [], ◌∷◌, ◌++◌, length, map, All, Ok, codes}
use Rattle.std.specs.List.{flat_map}
use Rattle.std.specs.Str.{bytes_eq}
use Rattle.net_base.specs.Keys.{is_among}
use Rattle.blif_model.specs.declared.design.Cube.{Cube}
use Rattle.blif_model.specs.declared.design.Design.{Design}
use Rattle.blif_model.specs.declared.design.TheConstants.{MAX_INPUTS, MAX_OUTPUTS, MAX_TABLES, MAX_PINS}
use Rattle.blif_model.specs.Names.{AreDistinctNames}
use Rattle.blif_model.specs.Order.{table_order}
use Rattle.blif_read.specs.Spelling.{lines_text, row_lines, IsPlainName}
use Rattle.blif_read.specs.Reading.{design_of}

-- a table by the names of its signals
pub record NamedTable : Type 0 where
  pub pins : List (List ℕ)
  pub target : List ℕ
  pub rows : List Cube
  pub on : Bool

-- a design by the names of its signals
pub record NamedDesign : Type 0 where
  pub name : List ℕ
  pub inputs : List (List ℕ)
  pub outputs : List (List ℕ)
  pub tables : List NamedTable

-- the lines of a table: its pins and its target, then its rows
abbrev pub named_table_lines : NamedTable → List (List (List ℕ))
named_table_lines table = (codes ".names" ∷ (table.pins ++ table.target ∷ [])) ∷ row_lines table.on table.rows

-- the lines of a design: the model, the inputs, the outputs, the tables in order, and the end
abbrev pub named_lines : NamedDesign → List (List (List ℕ))
named_lines design =
    (codes ".model" ∷ design.name ∷ [])
    ∷ (codes ".inputs" ∷ design.inputs)
    ∷ (codes ".outputs" ∷ design.outputs)
    ∷ (flat_map named_table_lines design.tables ++ (codes ".end" ∷ []) ∷ [])

-- the text of a design
abbrev pub named_text : NamedDesign → List ℕ
named_text design = lines_text (named_lines design)

-- Tables that stand behind their drivers, these signals being driven before: the pins of each are driven, its target isn't,
-- and is so from then on.
abbrev pub FollowDrivers : List (List ℕ) → List NamedTable → Type 0
FollowDrivers driven [] = Unit {0}
FollowDrivers driven (table ∷ tables) =
    All (λ pin. is_among bytes_eq pin driven ≡ true) table.pins
    × (is_among bytes_eq table.target driven ≡ false)
    × FollowDrivers (driven ++ table.target ∷ []) tables

-- a table that keeps the limits, and whose rows fit its pins
pub record IsNamedTable (table : NamedTable) : Type 0 where
  pub target : IsPlainName table.target
  pub few : length table.pins ≤ MAX_PINS
  pub rows : All (λ row. length row.bits ≡ length table.pins) table.rows
  pub on : length table.rows ≡ 0 → table.on ≡ true

-- A design in order, by its names.
pub record IsInOrder (design : NamedDesign) : Type 0 where
  pub name : IsPlainName design.name
  pub inputs : All IsPlainName design.inputs
  pub distinct_inputs : AreDistinctNames design.inputs
  pub few_inputs : length design.inputs ≤ MAX_INPUTS
  pub distinct_outputs : AreDistinctNames design.outputs
  pub few_outputs : length design.outputs ≤ MAX_OUTPUTS
  pub driven_outputs : All (λ output. is_among bytes_eq output (design.inputs ++ map (λ table. table.target) design.tables) ≡ true) design.outputs
  pub tables : All IsNamedTable design.tables
  pub few_tables : length design.tables ≤ MAX_TABLES
  pub order : FollowDrivers design.inputs design.tables

-- A text is accepted: its lines have no fault, and the tables of its design have an order.
pub record IsAccepted (text : List ℕ) : Type 0 where
  pub design : Design
  pub order : List ℕ
  pub reads : design_of text ≡ Ok design
  pub ordered : table_order design ≡ Ok order

-- The text of a design in order is accepted.
abbrev pub DesignsInOrderAreAccepted : Type 0
DesignsInOrderAreAccepted = (design : NamedDesign) → IsInOrder design → IsAccepted (named_text design)
