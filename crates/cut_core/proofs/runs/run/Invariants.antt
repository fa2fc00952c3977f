use Rattle.std.proofs.Common.{◌≡◌, drop}
use Rattle.cut_core.specs.Machine.{states_from, state_after}
use Rattle.cut_core.specs.Cores.{IsCoreOf}
use Rattle.cut_core.proofs.runs.run.Given as goal

abbrev pub invariant-loop-event : goal.invariant-loop-event
invariant-loop-event l = record {
  core : IsCoreOf l.graph l.core;
  whole : states_from l.graph l.core.states.items (drop l.event-index l.events) ≡ state_after l.graph l.events;
}
