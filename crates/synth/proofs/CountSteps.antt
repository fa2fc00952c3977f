-- Counting elements one by one.
use Rattle.std.proofs.Common.{◌≡◌, ◌≤◌, ◌+◌, ◌*◌, ℕ, List, drop}
use Rattle.pulse_net.specs.declared.net.Element.{Element}
use Rattle.pulse_net.specs.Dros.{dros}
use Rattle.synth.specs.declared.counts.Counts.{Counts}
use Rattle.synth.specs.Counts.{is_gate, is_split, element_junctions, counted}

-- what is counted of the elements before a place, and what those from there on count, are the whole; none counts for much
pub record AreCounted (elements : List Element) (place : ℕ) (counts : Counts) : Type 0 where
  pub gates : counts.gates + counted is_gate (drop place elements) ≡ counted is_gate elements
  pub dros : counts.dros + dros (drop place elements) ≡ dros elements
  pub splits : counts.splits + counted is_split (drop place elements) ≡ counted is_split elements
  pub junctions : counts.junctions + counted element_junctions (drop place elements) ≡ counted element_junctions elements
  pub few_gates : counts.gates ≤ place
  pub few_dros : counts.dros ≤ place
  pub few_splits : counts.splits ≤ place
  pub few_junctions : counts.junctions ≤ 13 * place
