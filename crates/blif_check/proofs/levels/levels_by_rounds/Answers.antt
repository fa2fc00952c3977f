use Rattle.std.proofs.Common.{◌∙◌, get_or, ap, arith}
use Rattle.blif_model.proofs.CallerLemmas.{level_within-le}
use Rattle.blif_check.proofs.LevelsFound.{level_within-round}
use Rattle.blif_check.proofs.levels.levels_by_rounds.Goals as goal

pub next_levels-requires-clause-few : goal.next_levels-requires-clause-few
next_levels-requires-clause-few c = λ signal.
    omega (
      arith,
      ap (λ levels. get_or levels signal 0) c.as_slice.ensures.value,
      c.loop-round.invariant signal,
      level_within-le c.args.tables.now c.loop-round._round signal,
      c.requires.tables,
    )

pub loop-round-preserved : goal.loop-round-preserved
loop-round-preserved c = λ signal.
    level_within-round c.args.tables.now c.as_slice.result.now c.loop-round._round signal _
    (λ other. ap (λ levels. get_or levels other 0) c.as_slice.ensures.value ∙ c.loop-round.invariant other)
    (c.in_ok-levels-2.ensures signal)
