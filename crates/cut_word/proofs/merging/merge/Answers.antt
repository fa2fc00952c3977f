use Rattle.std.proofs.Common.{◌∙◌, ◌++◌, ◌∷◌, [], ap, sym, subst, bit_and, Some, refl}
use Rattle.cut_word.specs.Cut.{CutView, IsCut, value_over}
use Rattle.cut_word.specs.Table.{value_at}
use Rattle.cut_word.specs.Steps.{where_had}
use Rattle.cut_word.specs.Merge.{united, both_over}
use Rattle.cut_word.proofs.CallerLemmas.{merged-some, merged-none, value_over-merged}
use Rattle.cut_word.proofs.MergeTables.{IsMade, IsMade-of, both_over-leaves}
use Rattle.cut_word.proofs.merging.merge.Goals as goal

pub returns-in_err-leaves-clause-value : goal.returns-in_err-leaves-clause-value
returns-in_err-leaves-clause-value c = c.from_residual.ensures ∙ sym (merged-none c.args.a c.args.b (c.in_err-leaves.ensures.none.0 refl))

made : (c : goal.After-widened-2) → IsMade c.args.a c.args.b c.word.result (bit_and c.widened.result c.widened-2.result)
made c =
    IsMade-of c.args.a c.args.b c.word.result c.widened.result c.widened-2.result c.in_ok-leaves.leaves
    (subst IsCut c.a.view_is c.a.invariant.cut) (subst IsCut c.b.view_is c.b.invariant.cut) c.in_ok-leaves.ensures.union c.widened.ensures.byte
    (λ x y z. c.widened.ensures.value x y z ∙ ap (λ (v : CutView). value_at v.table (where_had c.in_ok-leaves.leaves.a.one (x ∷ []) ++ (where_had c.in_ok-leaves.leaves.a.two (y ∷ []) ++ z ∷ []))) c.a.view_is)
    (λ x y z. c.widened-2.ensures.value x y z ∙ ap (λ (v : CutView). value_at v.table (where_had c.in_ok-leaves.leaves.b.one (x ∷ []) ++ (where_had c.in_ok-leaves.leaves.b.two (y ∷ []) ++ z ∷ []))) c.b.view_is)
    c.word.ensures

pub invariant_of-result : goal.invariant_of-result
invariant_of-result c = (made c).are

pub returns-clause-leaves : goal.returns-clause-leaves
returns-clause-leaves c = ap (λ (v : CutView). v.leaves) (made c).is ∙ both_over-leaves (united c.args.a.leaves c.args.b.leaves) c.args.a c.args.b

pub returns-clause-conjunction : goal.returns-clause-conjunction
returns-clause-conjunction c = λ values.
    ap (value_over values) (made c).is
    ∙ value_over-merged c.args.a c.args.b (both_over (united c.args.a.leaves c.args.b.leaves) c.args.a c.args.b) values (merged-some c.args.a c.args.b (made c).few)

pub returns-clause-value : goal.returns-clause-value
returns-clause-value c = ap Some (made c).is ∙ sym (merged-some c.args.a c.args.b (made c).few)

pub returns-clause-cut : goal.returns-clause-cut
returns-clause-cut c = (made c).are.cut
