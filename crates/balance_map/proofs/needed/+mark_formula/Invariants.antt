use Rattle.std.proofs.Common.{◌≡◌, ◌<◌, ◌-◌, ◌||◌, ℕ, false, length, drop, get_or, map, nat_eq}
use Rattle.std.specs.List.{flat_map}
use Rattle.net_base.specs.Keys.{is_among}
use Rattle.balance_map.specs.Needed.{places_in}
use Rattle.balance_map.proofs.needed.+mark_formula.Given as goal

abbrev pub decreases-mark_formula : goal.decreases-mark_formula
decreases-mark_formula l = l.depth

-- a node is marked so far, or is among the leaves of the parts that remain, where it was marked or is among those of all parts
abbrev pub invariant-loop-part : goal.invariant-loop-part
invariant-loop-part l = (node : ℕ) → node < length l.marks → (get_or l.marks node false || is_among nat_eq node (map (λ place. get_or l.leaves place 0) (flat_map (places_in (length l.leaves) (l.depth - 1)) (drop l.part-index l.part-items)))) ≡ (get_or l.initial.marks node false || is_among nat_eq node (map (λ place. get_or l.leaves place 0) (flat_map (places_in (length l.leaves) (l.depth - 1)) l.part-items)))
