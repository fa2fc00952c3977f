use Rattle.std.proofs.Common.{◌≡◌, ◌≤◌, ◌+◌, drop, length}
use Rattle.pulse_net.specs.Unfolding.{unfold_elements}
use Rattle.pulse_net.proofs.unfolding.pass_elements.Given as goal

-- what remains does to what was traced what all elements do to what was there before, and each added one gate at most
abbrev pub invariant-loop-element : goal.invariant-loop-element
invariant-loop-element l = record {
  whole : unfold_elements (drop l.element-index l.elements) l.trace ≡ unfold_elements l.elements l.fn.trace;
  room : length l.trace.gates ≤ length l.fn.trace.gates + l.element-index;
}
