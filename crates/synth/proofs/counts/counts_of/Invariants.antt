use Rattle.synth.proofs.CountSteps.{AreCounted}
use Rattle.synth.proofs.counts.counts_of.Given as goal

-- what is counted so far and what the elements that are left count are the whole, and no element counts for much
abbrev pub invariant-loop-element : goal.invariant-loop-element
invariant-loop-element l = AreCounted l.elements l.element-index l.counts
