use Rattle.std.proofs.Common.{◌∙◌, if◌then◌else◌, Some, sym, ap, refl, arith, get_or, get_or-set_same, get_or-set_other, None}
use Rattle.pattern_table.proofs.Noting.{AreNoted-one}
use Rattle.pattern_table.proofs.level.offer.Goals as goal

pub returns-then-comes_first : goal.returns-then-comes_first
returns-then-comes_first c =
    AreNoted-one c.args.head c.args.table c.args.level.now _ c.requires
    (λ other h differs. get_or-set_other c.args.level.now c.args.table other (Some c.args.head) None differs)
    (get_or-set_same c.args.level.now c.args.table (Some c.args.head) None (omega (arith, c.told-level))
    ∙ sym (c.comes_first.ensures ∙ ap (λ b. if b then Some c.args.head else get_or c.args.level.now c.args.table None) c.if-comes_first.true))

pub returns-else-comes_first : goal.returns-else-comes_first
returns-else-comes_first c =
    AreNoted-one c.args.head c.args.table c.args.level.now c.args.level.now c.requires
    (λ other h differs. refl)
    (sym (c.comes_first.ensures ∙ ap (λ b. if b then Some c.args.head else get_or c.args.level.now c.args.table None) c.if-comes_first.false))
