use Rattle.std.proofs.Common.{refl, arith}
use Rattle.pattern_table.specs.Steps.{pair_heads, pair_heads_of}
use Rattle.pattern_table.proofs.Noting.{Walks-step, Walks-end}
use Rattle.pattern_table.proofs.WalkSteps.{walk-step}
use Rattle.pattern_table.proofs.level.add_pairs.Goals as goal

pub loop-i-preserved : goal.loop-i-preserved
loop-i-preserved c =
    Walks-step (pair_heads c.args.cell) c.args.parts.now c.loop-i.i c.args.level.now c.loop-i.level c.add_pairs_of.new.level _
    (walk-step (pair_heads c.args.cell) (pair_heads_of c.args.cell) (λ part parts. refl) c.args.parts.now c.loop-i.i _ (omega arith))
    c.add_pairs_of.ensures c.loop-i.invariant

pub returns : goal.returns
returns c = Walks-end (pair_heads c.args.cell) c.args.parts.now c.loop-i.i c.args.level.now c.loop-i.level refl (omega arith) c.loop-i.invariant
