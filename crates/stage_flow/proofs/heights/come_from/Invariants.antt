use Rattle.std.proofs.Common.{◌≡◌, length}
use Rattle.stage_flow.specs.Raising.{AreTracked}
use Rattle.stage_flow.proofs.heights.come_from.Given as goal

abbrev pub invariant-loop-near : goal.invariant-loop-near
invariant-loop-near l = record {
  each : length l.room.heights.items ≡ length l.initial.room.heights.items;
  tracked : AreTracked l.room.heights.items l.room.reached.items;
}
