use Rattle.std.proofs.Common.{◌∙◌, [], ap, arith}
use Rattle.std.proofs.lemmas.List.{get_or_default}
use Rattle.pattern_table.specs.Levels.{IsLevelOf, level_place}
use Rattle.pattern_table.specs.Steps.{entry}
use Rattle.pattern_table.proofs.patterns.Patterns.least.Goals as goal

pub returns : goal.returns
unfolding IsLevelOf
returns c =
    c.as_ref.ensures.value
    ∙ ap (λ level. entry level c.args.table) (c.index.ensures ∙ get_or_default c.self.inside.levels.items (level_place c.args.size c.args.depth) c.index.result.now [] (omega (arith, c.self.invariant.many)))
    ∙ c.self.invariant.each c.args.size c.args.depth c.requires.size.0 c.requires.size.1 c.requires.depth.0 c.requires.depth.1 (omega arith) c.args.table c.ranges.table.fits
