use Rattle.std.proofs.Common.{◌≡◌, ◌∙◌, sym, ap, subst, arith}
use Rattle.pattern_table.specs.Least.{parts_at, parts_above}
use Rattle.pattern_table.specs.Steps.{AreAscending, AreCheap}
use Rattle.pattern_table.proofs.Depths.{ascending-parts_at, cheap-parts_at, parts_in-level}
use Rattle.pattern_table.proofs.LevelLists.{IsLevelOf-over, AreLevels-next, parts_at-next}
use Rattle.pattern_table.proofs.patterns.add_size.Goals as goal

pub level_over-level-requires-clause-ascending : goal.level_over-level-requires-clause-ascending
level_over-level-requires-clause-ascending c =
    subst AreAscending (sym (c.as_slice.ensures.value ∙ c.loop-depth.invariant.parts)) (ascending-parts_at c.args.size c.loop-depth.depth c.requires.size.1)

pub level_over-level-requires-clause-cheap : goal.level_over-level-requires-clause-cheap
level_over-level-requires-clause-cheap c =
    subst AreCheap (sym (c.as_slice.ensures.value ∙ c.loop-depth.invariant.parts)) (cheap-parts_at c.args.size c.loop-depth.depth (omega arith))

pub loop-depth-preserved : goal.loop-depth-preserved
loop-depth-preserved c =
    let is : c.as_slice.result.now ≡ parts_at c.args.size c.loop-depth.depth = c.as_slice.ensures.value ∙ c.loop-depth.invariant.parts in
    record {
      parts =
          parts_at-next c.args.size c.loop-depth.depth c.in_ok-parts-2.parts.items
          (c.in_ok-parts-2.ensures ∙ parts_in-level c.as_slice.result.now c.level_over-level.result c.level_over-level.ensures ∙ ap parts_above is);
      levels =
          AreLevels-next c.loop-depth.levels.items c.push.new.self.items c.args.size c.loop-depth.depth c.level_over-level.result c.requires.size.0 (omega arith)
          c.in_ok-push.ensures.items (IsLevelOf-over c.args.size c.loop-depth.depth c.as_slice.result.now c.level_over-level.result is c.level_over-level.ensures)
          c.loop-depth.invariant.levels;
    }
