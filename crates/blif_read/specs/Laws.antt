-- What is said of designs that are read, whatever the text.
use Rattle.std.specs.Prelude.{◌≡◌, ℕ, List, Ok}
use Rattle.blif_model.specs.declared.design.Design.{Design}
use Rattle.blif_model.specs.Regular.{IsRegular}
use Rattle.blif_read.specs.Reading.{design_of}

-- The design of a text is regular.
abbrev pub DesignsAreRegular : Type 0
DesignsAreRegular = (text : List ℕ) (design : Design) → design_of text ≡ Ok design → IsRegular design
