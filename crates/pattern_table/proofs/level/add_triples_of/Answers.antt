use Rattle.std.proofs.Common.{refl, arith}
use Rattle.pattern_table.specs.Steps.{triple_heads_of, majorities}
use Rattle.pattern_table.proofs.Noting.{Walks-step, Walks-end}
use Rattle.pattern_table.proofs.WalkSteps.{walk-step}
use Rattle.pattern_table.proofs.level.add_triples_of.Goals as goal

pub loop-i-preserved : goal.loop-i-preserved
loop-i-preserved c =
    Walks-step (triple_heads_of c.args.left) c.args.parts.now c.loop-i.i c.args.level.now c.loop-i.level c.add_majorities.new.level _
    (walk-step (triple_heads_of c.args.left) (majorities c.args.left) (λ part parts. refl) c.args.parts.now c.loop-i.i _ (omega arith))
    c.add_majorities.ensures c.loop-i.invariant

pub returns : goal.returns
returns c = Walks-end (triple_heads_of c.args.left) c.args.parts.now c.loop-i.i c.args.level.now c.loop-i.level refl (omega arith) c.loop-i.invariant
