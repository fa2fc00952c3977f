use Rattle.std.proofs.Common.{◌≡◌, ◌<◌, ◌^◌, drop, map, max}
use Rattle.gate_net.specs.Entries.{entry_of}
use Rattle.phase_rule.specs.Levels.{largest}
use Rattle.phase_rule.proofs.level.largest_level.Given as goal

abbrev pub invariant-loop-pin : goal.invariant-loop-pin
invariant-loop-pin l = (max l.most (largest (map (entry_of l.levels) (drop l.pin-index l.pins))) ≡ largest (map (entry_of l.levels) l.pins)) × (l.most < 2 ^ 31)
