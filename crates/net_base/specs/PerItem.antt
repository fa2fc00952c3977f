-- Lists of answers, one per item, each made from the answers before it: values of nodes and of gates, and levels.
use Rattle.std.specs.Prelude.{List, [], ◌∷◌, ◌++◌}

-- one answer per item, in order, behind those that are there
abbrev pub per_item : {A X : Type 0} → (List A → X → A) → List A → List X → List A
per_item answer done [] = done
per_item answer done (item ∷ items) = per_item answer (done ++ answer done item ∷ []) items
