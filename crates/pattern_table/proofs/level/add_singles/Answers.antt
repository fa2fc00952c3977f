use Rattle.std.proofs.Common.{[], ◌∷◌, refl, arith}
use Rattle.pattern_table.specs.declared.heads.Part.{Part}
use Rattle.pattern_table.specs.Least.{head_over}
use Rattle.pattern_table.specs.Steps.{single_heads}
use Rattle.pattern_table.proofs.Noting.{Walks-step, Walks-end}
use Rattle.pattern_table.proofs.WalkSteps.{map-step}
use Rattle.pattern_table.proofs.level.add_singles.Goals as goal

-- stands for the part past the last
abbrev none : Part
none = record { table = 0; cost = 0 }

pub loop-part-preserved : goal.loop-part-preserved
loop-part-preserved c =
    Walks-step (single_heads c.args.cell) c.args.parts.now c.loop-part.part-index c.args.level.now c.loop-part.level c.offer.new.level _
    (map-step (λ part. head_over c.args.cell (part ∷ [])) c.args.parts.now c.loop-part.part-index none _ (omega arith) c.head_of_one.ensures)
    c.offer.ensures c.loop-part.invariant

pub returns : goal.returns
returns c = Walks-end (single_heads c.args.cell) c.args.parts.now c.loop-part.part-index c.args.level.now c.loop-part.level refl (omega arith) c.loop-part.invariant
