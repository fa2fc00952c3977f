use Rattle.std.proofs.Common.{◌≡◌, drop}
use Rattle.flow_cert.specs.Sums.{balance_cause as balance_cause_of}
use Rattle.flow_cert.proofs.vertices.balance_cause.Given as goal

abbrev pub invariant-loop-place : goal.invariant-loop-place
invariant-loop-place l = balance_cause_of l.net 0 l.balances ≡ balance_cause_of l.net l.place (drop l.place l.balances)
