use Rattle.std.proofs.Common.{◌≡◌, ◌<◌, ◌≤◌, ℕ, Bool, List, length, get_or}
use Rattle.flow_net.specs.Uses.{marked_below}
use Rattle.flow_net.proofs.numbers.counts_before.Given as goal

pub record Counted (marks : List Bool) (counts : List ℕ) (count i : ℕ) : Type 0 where
  pub each : length counts ≡ i
  pub next : count ≡ marked_below marks i
  pub few : count ≤ i
  pub before : (k : ℕ) → k < i → get_or counts k 0 ≡ marked_below marks k

abbrev pub invariant-loop-mark : goal.invariant-loop-mark
invariant-loop-mark l = Counted l.marks l.counts.items l.count l.mark-index
