use Rattle.std.proofs.Common.{◌≡◌, ◌<◌, ◌^◌, drop, map, max}
use Rattle.std.specs.Prelude.{slice_index}
use Rattle.blif_model.specs.Order.{largest}
use Rattle.blif_check.proofs.levels.largest_level.Given as goal

abbrev pub invariant-loop-pin : goal.invariant-loop-pin
invariant-loop-pin l = (max l.most (largest (map (slice_index l.levels) (drop l.pin-index l.pins))) ≡ largest (map (slice_index l.levels) l.pins)) × (l.most < 2 ^ 31)
