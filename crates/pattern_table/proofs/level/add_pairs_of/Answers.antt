use Rattle.std.proofs.Common.{[], ◌∷◌, refl, arith}
use Rattle.pattern_table.specs.declared.heads.Part.{Part}
use Rattle.pattern_table.specs.Least.{head_over}
use Rattle.pattern_table.specs.Steps.{pair_heads_of}
use Rattle.pattern_table.proofs.Noting.{Walks-step, Walks-end}
use Rattle.pattern_table.proofs.WalkSteps.{map-step}
use Rattle.pattern_table.proofs.level.add_pairs_of.Goals as goal

-- stands for the part past the last
abbrev none : Part
none = record { table = 0; cost = 0 }

pub loop-right-preserved : goal.loop-right-preserved
loop-right-preserved c =
    Walks-step (pair_heads_of c.args.cell c.args.left) c.args.rights.now c.loop-right.right-index c.args.level.now c.loop-right.level c.offer.new.level _
    (map-step (λ right. head_over c.args.cell (c.args.left ∷ right ∷ [])) c.args.rights.now c.loop-right.right-index none _ (omega arith) c.head_of_two.ensures)
    c.offer.ensures c.loop-right.invariant

pub returns : goal.returns
returns c = Walks-end (pair_heads_of c.args.cell c.args.left) c.args.rights.now c.loop-right.right-index c.args.level.now c.loop-right.level refl (omega arith) c.loop-right.invariant
