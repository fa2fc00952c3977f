-- What the steps towards choices rest on: counts of reads, room in sums, and candidates over nodes that are chosen.
use Rattle.std.specs.Prelude.{ℕ, ◌≡◌, ◌==◌, ◌<◌, ◌≤◌, ◌^◌, List, length, slice_index, count_by, All}
use Rattle.cut_word.specs.Cut.{CutView, IsCut}
use Rattle.cut_word.specs.Word.{first_word}
use Rattle.cell_match.specs.declared.matching.Match.{Match}
use Rattle.balance_map.specs.declared.choice.Choice.{Choice}
use Rattle.balance_map.specs.declared.choice.TheConstants.{MAX_COST}

-- a count for each node: how often it stands among the reads
abbrev pub AreCounts : List ℕ → List ℕ → Type 0
AreCounts reads counts = (node : ℕ) → node < length counts → slice_index counts node ≡ count_by (λ read. read == node) reads

-- sums over these choices stay in range: each costs so much at most, and arrives at such a level at most
pub record HaveRoom (choices : List Choice) : Type 0 where
  pub costs : All (λ (choice : Choice). choice.cost ≤ MAX_COST) choices
  pub arrivals : All (λ (choice : Choice). choice.arrival ≤ 2 ^ 23) choices

-- a candidate is that of a cut over so many first nodes
pub record IsOver (nodes : ℕ) (candidate : Match) : Type 0 where
  pub shallow : candidate.depth ≤ 4
  pub cut : (cut : CutView) × IsCut cut × All (λ leaf. leaf < nodes) cut.leaves × (candidate.leaves ≡ first_word cut.leaves) × (candidate.table ≡ cut.table)
