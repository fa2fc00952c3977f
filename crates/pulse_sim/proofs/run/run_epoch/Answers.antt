use Rattle.std.proofs.Common.{rules, ◌≡◌, ◌<◌, ◌+◌, ◌*◌, length, subst, ◌∙◌, arith, add_assoc}
use Rattle.pulse_sim.specs.Running.{HasRun, seen_before}
use Rattle.pulse_sim.proofs.RunsAreRight.{feeds-row, feeds-silence, clear-right}
use Rattle.pulse_sim.proofs.run.run_epoch.Goals as goal

pub loop-phase-init : goal.loop-phase-init
loop-phase-init c = record {
  taps = c.step.ensures.taps;
  shown = search rules;
  read = search rules;
  run = λ net rows epoch valid same run row.
      c.step.ensures.run net rows (net.phases * epoch) 0 valid run (feeds-row net rows epoch c.args.row.now valid.formed.some_phases row)
      (c.clear.ensures ∙ clear-right net rows c.args.sim.now (net.phases * epoch) (length c.args.read.now) run c.requires.read);
}

pub loop-phase-preserved : goal.loop-phase-preserved
loop-phase-preserved c = record {
  taps = c.step-in-loop-phase.ensures.taps ∙ c.loop-phase.invariant.taps;
  shown = search rules;
  read = search rules;
  run = λ net rows epoch valid same run row.
      let so = c.loop-phase.invariant.run net rows epoch valid same run row in
      let below : c.loop-phase.phase < net.phases = omega (arith, same, c.loop-phase-test.true) in
      let next = c.step-in-loop-phase.ensures.run net rows (net.phases * epoch + c.loop-phase.phase) c.loop-phase.phase valid so.0 (feeds-silence net rows epoch c.loop-phase.phase c.loop-phase.auto.phase below) so.1 in
      subst (λ tick. HasRun net rows tick c.step-in-loop-phase.new.sim × (c.step-in-loop-phase.new.read ≡ seen_before net rows tick (c.loop-phase.phase + 1))) (add_assoc (net.phases * epoch) c.loop-phase.phase 1) next;
}

pub returns-clause-run : goal.returns-clause-run
returns-clause-run c net rows epoch valid same run row =
    let so = c.loop-phase.invariant.run net rows epoch valid same run row in
    let end : c.loop-phase.phase ≡ net.phases = omega (arith, same, valid.formed.some_phases, c.loop-phase-test.false, c.loop-phase.auto.phase-end) in
    let next : net.phases * epoch + net.phases ≡ net.phases * (epoch + 1) = grind arith in
    subst (λ tick. HasRun net rows tick c.loop-phase.sim × (c.loop-phase.read ≡ seen_before net rows tick net.phases)) next
    (subst (λ phase. HasRun net rows (net.phases * epoch + phase) c.loop-phase.sim × (c.loop-phase.read ≡ seen_before net rows (net.phases * epoch + phase) phase)) end so)
