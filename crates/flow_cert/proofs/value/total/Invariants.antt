use Rattle.std.proofs.Common.{◌≡◌, ◌≤◌, ◌*◌, take, sum}
use Rattle.flow_cert.proofs.value.total.Given as goal

abbrev pub invariant-loop-length : goal.invariant-loop-length
invariant-loop-length l = (l.total ≡ sum (take l.length-index l.lengths)) × (l.total ≤ 4294967295 * l.length-index)
