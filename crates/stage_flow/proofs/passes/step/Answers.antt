use Rattle.std.proofs.Common.{◌≡◌, ℤ, w64, to_z, of_z, subst, arith}
use Rattle.std.proofs.lemmas.Int.{ints}
use Rattle.stage_flow.specs.Search.{way_by}
use Rattle.stage_flow.specs.Passes.{OffersNoBetter, AreUnder, Nears, Brings}
use Rattle.stage_flow.proofs.passes.step.Goals as goal

pub returns-then-is_residual-clause-nears : goal.returns-then-is_residual-clause-nears
returns-then-is_residual-clause-nears c = λ lengths counts fits under.
    let span : to_z w64 (of_z w64 c.args.span) ≡ c.args.span = omega (arith, ints) in
    let done = subst (λ (s : ℤ).
    OffersNoBetter lengths counts (way_by c.args.tail c.args.head s)
    → AreUnder lengths counts c.args.far.now c.args.hops.now
    → Nears lengths counts c.args.far.now c.args.hops.now c.offer.new.far c.offer.new.hops
    × Brings lengths counts c.args.far.now c.args.hops.now c.offer.new.far c.offer.new.hops (way_by c.args.tail c.args.head s)) span
    (c.offer.ensures.nears lengths counts) (fits c.if-is_residual.true) under in
    (done.0, λ is. done.1)
