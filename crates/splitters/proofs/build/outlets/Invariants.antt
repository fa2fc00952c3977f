use Rattle.std.proofs.Common.{◌≡◌, ◌≤◌, ◌+◌, ◌++◌, drop}
use Rattle.splitters.specs.Elements.{outlets}
use Rattle.splitters.proofs.build.outlets.Given as goal

abbrev pub invariant-loop-end : goal.invariant-loop-end
invariant-loop-end l = record {
  outlets : l.found.items ++ outlets l.taken l.pin (drop l.end-index l.ends) ≡ outlets l.taken l.initial.pin l.ends;
  few : l.pin ≤ l.initial.pin + l.end-index;
}
