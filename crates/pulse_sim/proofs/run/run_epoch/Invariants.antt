use Rattle.std.proofs.Common.{◌≡◌, ℕ, ◌+◌, ◌*◌, Bool, List, [], length, slice_index_or}
use Rattle.pulse_net.specs.declared.net.PulseNet.{PulseNet}
use Rattle.pulse_net.specs.Validity.{IsValid}
use Rattle.pulse_sim.specs.Running.{HasRun, seen_before}
use Rattle.pulse_sim.proofs.run.run_epoch.Given as goal

-- the ticks of the epoch up to this phase were run and read
abbrev pub invariant-loop-phase : goal.invariant-loop-phase
invariant-loop-phase l = record {
  taps : l.sim.taps ≡ l.fn.sim.taps;
  shown : length l.shown ≡ length l.fn.sim.taps;
  read : length l.read ≡ length l.fn.sim.taps;
  run : (net : PulseNet) (rows : List (List Bool)) (epoch : ℕ) → IsValid net → l.phases ≡ net.phases → HasRun net rows (net.phases * epoch) l.fn.sim → l.row ≡ slice_index_or rows epoch [] → HasRun net rows (net.phases * epoch + l.phase) l.sim × (l.read ≡ seen_before net rows (net.phases * epoch + l.phase) l.phase);
}
