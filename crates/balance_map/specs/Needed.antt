-- Which nodes are needed: those that an output reads, and those that stand as a leaf in the chosen formula of a needed node.
use Rattle.std.specs.Prelude.{ℕ, zero, suc, ◌&&◌, nat_le, nat_eq, cond, List, [], ◌∷◌, ◌++◌, length, map, slice_index_or, Option, Some, None, unwrap_or}
use Rattle.std.specs.List.{flat_map}
use Rattle.net_base.specs.declared.graph.Subject.{Subject}
use Rattle.net_base.specs.Keys.{is_among}
use Rattle.cut_word.specs.Word.{leaves_in}
use Rattle.pattern_table.specs.declared.formula.Formula.{Formula}
use Rattle.pattern_table.specs.Least.{least_formula, leaf_at, parts_of}
use Rattle.balance_map.specs.declared.choice.Choice.{Choice}
use Rattle.balance_map.specs.FanOuts.{output_nodes}
use Rattle.balance_map.specs.Choices.{choice_at, choices_of}

-- the parts of a formula, if there is one
abbrev pub parts_in : Option Formula → List ℕ
parts_in None = []
parts_in (Some formula) = parts_of formula

-- The places of the leaves that stand in the least formula of a table, from the left: it is over so many leaves and so deep.
abbrev pub places_in : ℕ → ℕ → ℕ → List ℕ
places_in size zero table = unwrap_or (leaf_at size table) 0 ∷ []
places_in size (suc depth) table = flat_map (places_in size depth) (parts_in (least_formula size table (suc depth)))

-- the leaves that stand in the chosen formula, as nodes
abbrev pub leaves_used : Choice → List ℕ
leaves_used choice =
    map (λ place. slice_index_or (leaves_in choice.leaves) place 0) (places_in (length (leaves_in choice.leaves)) choice.depth choice.table)

-- Of the nodes below a number, those that are needed, ascending, where these are wanted: at outputs, or by needed nodes from the
-- number on. No input is needed.
abbrev pub needed_below : ℕ → List Choice → ℕ → List ℕ → List ℕ
needed_below inputs choices zero wanted = []
needed_below inputs choices (suc node) wanted =
    cond (nat_le inputs node && is_among nat_eq node wanted)
    (needed_below inputs choices node (wanted ++ leaves_used (choice_at choices node)) ++ node ∷ [])
    (needed_below inputs choices node wanted)

-- the needed nodes, ascending
unfoldable pub needed_nodes : Subject → List ℕ
needed_nodes subject = needed_below subject.graph.inputs (choices_of subject) (length subject.graph.nodes) (output_nodes subject)
