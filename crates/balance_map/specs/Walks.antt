-- Walks of formulas: which may be walked, and how many gates they add at most; and marks that note nodes.
use Rattle.std.specs.Prelude.{ℕ, zero, suc, ◌≡◌, ◌+◌, ◌*◌, ◌≤◌, ◌<◌, ◌||◌, nat_eq, Bool, true, false, List, length, slice_index_or, All}
use Rattle.net_base.specs.Keys.{is_among}
use Rattle.pattern_table.specs.Least.{has_formula}
use Rattle.gate_net.specs.declared.row.Driver.{Driver}
use Rattle.gate_net.specs.declared.row.Driver.TheVariants.{Input}
use Rattle.gate_net.specs.Net.{IsThere}
use Rattle.balance_map.specs.Needed.{places_in}

-- how many gates a formula so deep adds at most: each cell has three parts at most
abbrev pub most_gates : ℕ → ℕ
most_gates zero = 0
most_gates (suc depth) = 3 * most_gates depth + 1

-- the driver of the leaf at a place is there
abbrev pub IsLeafThere : ℕ → ℕ → List Driver → ℕ → Type 0
IsLeafThere inputs gates leaves place = IsThere inputs gates (slice_index_or leaves place (Input 0))

-- A table may be walked, so deep, over leaves with these drivers: a formula has it, and the drivers of the leaves that stand in
-- the least one are there.
pub record IsReady (inputs gates : ℕ) (leaves : List Driver) (depth table : ℕ) : Type 0 where
  pub some : 1 ≤ length leaves
  pub few : length leaves ≤ 3
  pub shallow : depth ≤ 4
  pub formula : has_formula (length leaves) table depth ≡ true
  pub there : All (IsLeafThere inputs gates leaves) (places_in (length leaves) depth table)

-- marks have these nodes as well as those that they had
abbrev pub NotesNodes : List Bool → List Bool → List ℕ → Type 0
NotesNodes old new nodes =
    (node : ℕ) → node < length old → slice_index_or new node false ≡ (slice_index_or old node false || is_among nat_eq node nodes)
