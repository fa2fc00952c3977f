use Rattle.std.proofs.Common.{◌<◌, All, length, take, sym, subst, arith}
use Rattle.balance_map.proofs.Candidates.{leaves-there, choice_of-made}
use Rattle.balance_map.proofs.candidate.choice_of.Goals as goal

pub latest-last-requires-clause-leaves : goal.latest-last-requires-clause-leaves
latest-last-requires-clause-leaves c =
    subst (All (λ leaf. leaf < length c.args.choices.now)) (sym c.parts_of-parts.ensures.leaves) (leaves-there (length c.args.choices.now) c.args.candidate.now c.requires.candidate)

pub leaf_costs-below-requires-clause-leaves : goal.leaf_costs-below-requires-clause-leaves
leaf_costs-below-requires-clause-leaves c =
    subst (All (λ leaf. leaf < length c.args.choices.now)) (sym c.parts_of-parts.ensures.leaves) (leaves-there (length c.args.choices.now) c.args.candidate.now c.requires.candidate)

pub returns : goal.returns
returns c = λ subject are.
    choice_of-made subject c.args.choices.now c.args.candidate.now (take c.parts_of-parts.result.size c.parts_of-parts.result.leaves) c.latest-last.result
    c.leaf_costs-below.result c.min.result c.parts_of-parts.ensures.leaves c.latest-last.ensures.value (c.leaf_costs-below.ensures subject are)
    (omega (arith, c.min.ensures, c.saturating_add.ensures))
