use Rattle.std.proofs.Common.{◌≡◌, length}
use Rattle.stage_flow.specs.Raising.{AreTracked}
use Rattle.stage_flow.proofs.heights.search.Given as goal

abbrev pub invariant-loop : goal.invariant-loop
invariant-loop l = record {
  each : length l.room.heights.items ≡ length l.fn.room.heights.items;
  tracked : AreTracked l.room.heights.items l.room.reached.items;
}
