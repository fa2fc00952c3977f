use Rattle.std.proofs.Common.{arith, rules}
use Rattle.std.proofs.lemmas.Int.{ints}
use Rattle.stage_flow.proofs.PassSteps.{kept, refused, taken}
use Rattle.stage_flow.proofs.passes.offer.Goals as goal

pub returns-in_default-clause-nears : goal.returns-in_default-clause-nears
returns-in_default-clause-nears c = λ lengths counts fits under.
    kept lengths counts c.args.far.now c.args.hops.now c.args.tail c.args.head c.args.span fits under
    (λ from there held led count.
    absurd (c.in_default.ensures (omega (arith, ints, held.low, held.high, led))))

pub returns-in_default-checked_add-clause-nears : goal.returns-in_default-checked_add-clause-nears
returns-in_default-checked_add-clause-nears c = λ lengths counts fits under.
    kept lengths counts c.args.far.now c.args.hops.now c.args.tail c.args.head c.args.span fits under
    (λ from there held led count.
    absurd (c.in_default-checked_add.ensures (omega (arith, held.few, count))))

pub returns-then-exceeds-clause-nears : goal.returns-then-exceeds-clause-nears
returns-then-exceeds-clause-nears c = λ lengths counts fits under.
    taken lengths counts c.args.far.now c.args.hops.now c.args.tail c.args.head c.args.span fits under
    _ _ (search rules) (search rules) (search rules) (search rules) (search rules) (search rules)

pub returns-else-exceeds-clause-nears : goal.returns-else-exceeds-clause-nears
returns-else-exceeds-clause-nears c = λ lengths counts fits under.
    refused lengths counts c.args.far.now c.args.hops.now c.args.tail c.args.head c.args.span fits under
    c.in-Some.led c.in-Some-checked_add.count (search rules) (search rules) (search rules)
