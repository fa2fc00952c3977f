use Rattle.std.proofs.Common.{rules, ◌≡◌, ◌+◌, ◌-◌, ◌*◌, ◌++◌, List, Bool, length, drop, flat_map, refl, ap, subst, ◌∙◌, arith}
use Rattle.std.specs.List.{range_with_len}
use Rattle.std.proofs.lemmas.List.{drop-drop}
use Rattle.pulse_sim.specs.Reading.{line_read}
use Rattle.pulse_sim.specs.Running.{HasRun, seen_before}
use Rattle.pulse_sim.proofs.RunsAreRight.{first-left, line-right, lines-next}
use Rattle.pulse_sim.proofs.run.write_lines.Goals as goal

pub loop-epoch-preserved : goal.loop-epoch-preserved
loop-epoch-preserved c =
    let so = c.loop-epoch.invariant in
    let net = c.args.net.now in
    let rows = c.args.rows.now in
    record {
      taps = c.run_epoch.ensures.taps ∙ so.taps;
      shown = search rules;
      read = search rules;
      run = (c.run_epoch.ensures.run net rows c.loop-epoch.epoch c.requires.valid refl so.run (c.first_of.ensures ∙ first-left rows c.loop-epoch.left.now c.loop-epoch.epoch so.left)).0;
      left = c.rest_of-left.ensures ∙ ap (λ (l : List (List Bool)). drop 1 l) so.left ∙ drop-drop 1 c.loop-epoch.epoch rows;
    }

pub loop-row-preserved : goal.loop-row-preserved
loop-row-preserved c =
    let so = c.loop-row.invariant in
    let net = c.args.net.now in
    let rows = c.args.rows.now in
    let epoch = c.loop-row.row + (net.latency - 1) in
    let next : epoch + 1 ≡ c.loop-row.row + 1 + (net.latency - 1) = omega arith in
    let read_at : epoch + 1 ≡ c.loop-row.row + net.latency = omega (arith, c.requires.valid.formed.latency) in
    let ran = c.run_epoch-in-loop-row.ensures.run net rows epoch c.requires.valid refl so.run (c.first_of-in-loop-row.ensures ∙ first-left rows c.loop-row.left.now epoch so.left) in
    let line = line-right net rows c.loop-row.row c.run_epoch-in-loop-row.new.read (ran.1 ∙ ap (λ k. seen_before net rows (net.phases * k) net.phases) read_at) in
    record {
      taps = c.run_epoch-in-loop-row.ensures.taps ∙ so.taps;
      shown = search rules;
      read = search rules;
      run = subst (λ k. HasRun net rows (net.phases * k) c.run_epoch-in-loop-row.new.sim) next ran.0;
      left = c.rest_of-left-in-loop-row.ensures ∙ ap (λ (l : List (List Bool)). drop 1 l) so.left ∙ drop-drop 1 epoch rows ∙ ap (λ k. drop k rows) next;
      lines =
          ap (λ items. items ++ flat_map (line_read net rows) (range_with_len (c.loop-row.row + 1) (length rows - (c.loop-row.row + 1)))) (c.in_ok-push_line.ensures ∙ ap (λ l. c.loop-row.text.items ++ l) line)
          ∙ lines-next (line_read net rows) c.loop-row.text.items c.loop-row.row (length rows) c.loop-row-test.true
          ∙ so.lines;
    }
