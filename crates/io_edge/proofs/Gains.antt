-- What two writes do, one after the other.
-- A sink that takes the first n bytes, and then k of the rest, has taken the first n + k.
use Rattle.std.proofs.Common.{ℕ, ◌+◌, List, take, drop, Option, Some, None, refl, ap, ◌∙◌, arith}
use Rattle.std.proofs.lemmas.List.{append_assoc}
use Rattle.std.proofs.Math.Seq.{take-add}
use Rattle.io_edge.specs.Counts.{SinkCounts, AreLater}
use Rattle.io_edge.specs.Sink.{Gains}

pub Gains-more : (bytes : List ℕ) (n k : ℕ) (before between after : Option (List ℕ)) → Gains before between (take n bytes) → Gains between after (take k (drop n bytes)) → Gains before after (take (n + k) bytes)
Gains-more bytes n k None between after first next = rw (next, first) refl
Gains-more bytes n k (Some taken) between after first next =
    rw (next, first, take-add n k bytes) (ap Some (append_assoc taken (take n bytes) (take k (drop n bytes))))

-- and what is later than later counts is later
pub AreLater-more : (before between after : SinkCounts) → AreLater before between → AreLater between after → AreLater before after
AreLater-more before between after first next = record {
  faults = let f = first.faults in let g = next.faults in omega (arith, f, g);
  stalls = let f = first.stalls in let g = next.stalls in omega (arith, f, g);
  size = next.size ∙ first.size;
}
