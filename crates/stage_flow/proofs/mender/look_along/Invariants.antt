use Rattle.std.proofs.Common.{◌≡◌, ◌++◌, map, drop}
use Rattle.stage_flow.specs.Sending.{way_of}
use Rattle.stage_flow.specs.Staleness.{end_of, tails_on}
use Rattle.stage_flow.proofs.mender.look_along.Given as goal

abbrev pub invariant-loop-step : goal.invariant-loop-step
invariant-loop-step l = record {
  end : end_of l.end (map way_of (drop l.step-index l.path)) ≡ end_of l.from (map way_of l.path);
  tails : l.pending.items ++ tails_on (map way_of (drop l.step-index l.path)) ≡ l.initial.pending.items ++ tails_on (map way_of l.path);
}
