use Rattle.std.proofs.Common.{[], ◌∷◌, refl, arith}
use Rattle.cell_lib.specs.declared.cell.Cell.TheVariants.{Maj}
use Rattle.pattern_table.specs.declared.heads.Part.{Part}
use Rattle.pattern_table.specs.Least.{head_over}
use Rattle.pattern_table.specs.Steps.{majorities}
use Rattle.pattern_table.proofs.Noting.{Walks-step, Walks-end}
use Rattle.pattern_table.proofs.WalkSteps.{map-step}
use Rattle.pattern_table.proofs.level.add_majorities.Goals as goal

-- stands for the part past the last
abbrev none : Part
none = record { table = 0; cost = 0 }

pub loop-right-preserved : goal.loop-right-preserved
loop-right-preserved c =
    Walks-step (majorities c.args.left c.args.middle) c.args.rights.now c.loop-right.right-index c.args.level.now c.loop-right.level c.offer.new.level _
    (map-step (λ right. head_over Maj (c.args.left ∷ c.args.middle ∷ right ∷ [])) c.args.rights.now c.loop-right.right-index none _ (omega arith) c.majority_of.ensures)
    c.offer.ensures c.loop-right.invariant

pub returns : goal.returns
returns c = Walks-end (majorities c.args.left c.args.middle) c.args.rights.now c.loop-right.right-index c.args.level.now c.loop-right.level refl (omega arith) c.loop-right.invariant
