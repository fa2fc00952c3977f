use Rattle.std.proofs.Common.{refl, arith}
use Rattle.pattern_table.specs.Steps.{triple_heads, triple_heads_of}
use Rattle.pattern_table.proofs.Noting.{Walks-step, Walks-end}
use Rattle.pattern_table.proofs.WalkSteps.{walk-step}
use Rattle.pattern_table.proofs.level.add_triples.Goals as goal

pub loop-i-preserved : goal.loop-i-preserved
loop-i-preserved c =
    Walks-step (triple_heads) c.args.parts.now c.loop-i.i c.args.level.now c.loop-i.level c.add_triples_of.new.level _
    (walk-step triple_heads triple_heads_of (λ part parts. refl) c.args.parts.now c.loop-i.i _ (omega arith))
    c.add_triples_of.ensures c.loop-i.invariant

pub returns : goal.returns
returns c = Walks-end (triple_heads) c.args.parts.now c.loop-i.i c.args.level.now c.loop-i.level refl (omega arith) c.loop-i.invariant
