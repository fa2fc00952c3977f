-- The words of cut lists, and the rows that hold them.
use Rattle.std.specs.Prelude.{ℕ, ◌≡◌, ◌≤◌, ◌*◌, ◌/◌, ◌++◌, List, [], ◌∷◌, length, take, map, replicate, slice_index_or, All}
use Rattle.net_base.specs.declared.graph.GNode.{GNode}
use Rattle.net_base.specs.declared.graph.GNode.TheVariants.{Inp, Neg, Both}
use Rattle.net_base.specs.declared.graph.Graph.{Graph}
use Rattle.cut_word.specs.Cut.{CutView, IsCut}
use Rattle.cut_word.specs.Word.{first_word}
use Rattle.cut_lists.specs.declared.row.Row.{Row}
use Rattle.cut_lists.specs.CutList.{cut_lists, cut_list}

-- the words of cuts: the first and the second word of each, in order
abbrev pub words_of : List CutView → List ℕ
words_of [] = []
words_of (cut ∷ cuts) = first_word cut.leaves ∷ cut.table ∷ words_of cuts

-- the words of a node's cut list
abbrev pub node_words : Graph → ℕ → List ℕ
node_words graph node = words_of (cut_list graph node)

-- the words of all cut lists, in order of the nodes
abbrev pub all_words : Graph → List (List ℕ)
all_words graph = map words_of (cut_lists graph)

-- the row of these words, two for each cut, with zeros behind them
unfoldable pub row_with : List ℕ → Row
row_with words = record { len = length words / 2; words = take 16 (words ++ replicate 16 0) }

-- the words that a row uses
abbrev pub words_in : Row → List ℕ
words_in row = take (2 * row.len) row.words

-- a row is that of these cuts
pub record IsRowOf (cuts : List CutView) (row : Row) : Type 0 where
  pub each : All IsCut cuts
  pub few : length cuts ≤ 8
  pub is : row ≡ row_with (words_of cuts)

-- rows are those of the fan-ins that a node has; a row for a fan-in that it doesn't have may be any
abbrev pub AreRowsFor : Graph → GNode → Row → Row → Type 0
AreRowsFor graph (Inp k) a b = Unit {0}
AreRowsFor graph (Neg j) a b = a ≡ row_with (node_words graph j)
AreRowsFor graph (Both j k) a b = (a ≡ row_with (node_words graph j)) × (b ≡ row_with (node_words graph k))

-- rows are those of the fan-ins of the node at a place
abbrev pub AreFanInRows : Graph → ℕ → Row → Row → Type 0
AreFanInRows graph node a b = AreRowsFor graph (slice_index_or graph.nodes node (Inp 0)) a b

-- a row has zeros behind the words that it uses
abbrev pub IsClean : Row → Type 0
IsClean row = row ≡ row_with (words_in row)
