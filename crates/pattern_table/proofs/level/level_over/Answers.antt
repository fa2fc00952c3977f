use Rattle.std.proofs.Common.{◌∙◌, List, None, replicate}
use Rattle.pattern_table.specs.declared.heads.Part.{Part}
use Rattle.pattern_table.specs.Steps.{walked_heads, IsLevelOver, AreNoted}
use Rattle.pattern_table.proofs.Noting.{AreNoted-empty}
use Rattle.pattern_table.proofs.WalkSteps.{walked-noted}
use Rattle.pattern_table.proofs.Walked.{walked-least}
use Rattle.pattern_table.proofs.level.level_over.Goals as goal

pub returns : goal.returns
unfolding IsLevelOver
returns c =
    let parts : List Part = c.args.parts.now in
    let noted : AreNoted (walked_heads parts) (replicate 256 None) c.add_triples.new.level =
    walked-noted parts _ c.add_singles.new.level c.add_singles-2.new.level c.add_pairs.new.level c.add_pairs-2.new.level c.add_pairs-3.new.level c.add_triples.new.level
    c.add_singles.ensures c.add_singles-2.ensures c.add_pairs.ensures c.add_pairs-2.ensures c.add_pairs-3.ensures c.add_triples.ensures in
    λ table h. AreNoted-empty (walked_heads parts) c.add_triples.new.level 256 noted table h ∙ walked-least parts c.requires.ascending table
