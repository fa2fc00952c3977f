use Rattle.std.proofs.Common.{◌≡◌, ◌<◌, ◌*◌, ℕ, pos, ◌+ℤ◌, ◌-ℤ◌, ◌≤ℤ◌, length, get_or, drop}
use Rattle.flow_net.specs.Arcs.{arcs_from}
use Rattle.flow_net.specs.Flows.{out_minus_in}
use Rattle.flow_cert.specs.Verdicts.{vertices}
use Rattle.flow_cert.proofs.Balances.{balance_on}
use Rattle.flow_cert.proofs.vertices.send_all.Given as goal

-- what is done and what remains make the balance of each vertex, and what is done is small
abbrev pub invariant-loop-i : goal.invariant-loop-i
invariant-loop-i l =
    (length l.balances ≡ vertices l.net)
    × ((v : ℕ) → v < vertices l.net → get_or l.balances v (pos 0) +ℤ balance_on l.flow v (arcs_from l.net l.i (drop l.i l.net.pins)) ≡ out_minus_in l.net l.flow v)
    × ((v : ℕ) → v < vertices l.net → ((pos 0 -ℤ pos (8589934592 * l.i)) ≤ℤ get_or l.balances v (pos 0)) × (get_or l.balances v (pos 0) ≤ℤ pos (8589934592 * l.i)))
