use Rattle.std.proofs.Common.{arith}
use Rattle.stage_flow.proofs.PassRounds.{come-on, enough}
use Rattle.stage_flow.proofs.passes.pass_all.Goals as goal

pub loop-count-init : goal.loop-count-init
loop-count-init c = record { each = c.requires.each; come = λ starts lengths counts target come. come }

pub loop-count-preserved : goal.loop-count-preserved
loop-count-preserved c =
    let before = c.loop-count.invariant.each in
    let own = c.pass.ensures.each in record {
      each = (omega (arith, before.0, own.0), omega (arith, before.0, own.1));
      come = λ starts lengths counts target come.
          come-on c.args.net.now c.args.flow.now starts lengths counts c.requires.net c.requires.pins target c.loop-count._count c.loop-count.far c.pass.new.far c.loop-count.hops c.pass.new.hops before.0 own.0
          (c.pass.ensures.nears lengths counts) (c.loop-count.invariant.come starts lengths counts target come);
    }

pub returns-clause-come : goal.returns-clause-come
returns-clause-come c = λ starts lengths counts target come.
    enough lengths counts c.loop-count._count _ c.loop-count.far c.loop-count.hops (omega arith) (c.loop-count.invariant.come starts lengths counts target come)
