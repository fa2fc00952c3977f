use Rattle.std.proofs.Common.{◌≡◌, ◌<◌, ◌||◌, ℕ, false, length, drop, get_or, nat_eq}
use Rattle.std.specs.List.{flat_map}
use Rattle.net_base.specs.Keys.{is_among}
use Rattle.balance_map.specs.FanOuts.{ref_nodes}
use Rattle.balance_map.proofs.needed.mark_outputs.Given as goal

-- a node is marked so far, or is among those that remain, where it was marked or is among them all
abbrev pub invariant-loop-output : goal.invariant-loop-output
invariant-loop-output l = (node : ℕ) → node < length l.marks → (get_or l.marks node false || is_among nat_eq node (flat_map ref_nodes (drop l.output-index l.outputs))) ≡ (get_or l.initial.marks node false || is_among nat_eq node (flat_map ref_nodes l.outputs))
