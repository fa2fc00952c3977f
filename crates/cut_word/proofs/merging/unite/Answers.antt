use Rattle.std.proofs.Common.{◌<◌, ◌≤◌, ◌∙◌, refl, sym, length, arith}
use Rattle.cut_word.specs.Merge.{united}
use Rattle.cut_word.specs.Steps.{IsUnion}
use Rattle.cut_word.proofs.ThreeSteps.{Steps-of, Steps-more, Steps-whole}
use Rattle.cut_word.proofs.MergeTables.{length-union}
use Rattle.cut_word.proofs.merging.unite.Goals as goal
use Rattle.cut_word.proofs.merging.unite.Goals.{then-behind-ne0-via-then-behind-ne0, then-behind-ne0-via-else-behind-ne0+then-behind-ne0-2}

more : (c : goal.Joined-then-behind-ne0) → 3 < length (united c.args.a.leaves c.args.b.leaves)
more c =
    Steps-more c.args.a.leaves c.args.b.leaves _ _ _ _ _ _ _ _ _
    (Steps-of c.args.a c.args.b c.a.inside.leaves c.a.inside.table c.b.inside.leaves c.b.inside.table c.a.invariant c.b.invariant c.a.view_is c.b.view_is _ _ _ _ _ _ _
    c.least-one.ensures c.behind-a2.ensures c.behind-b2.ensures c.least-two.ensures c.behind-a3.ensures c.behind-b3.ensures c.least-three.ensures)
    (λ no-x no-y. elim c.then-behind-ne0.branch [
      | then-behind-ne0-via-then-behind-ne0 w ↦ w.if-behind-ne0.true (c.behind.ensures ∙ no-x)
      | then-behind-ne0-via-else-behind-ne0+then-behind-ne0-2 w ↦ w.if-behind-ne0-2.true (w.behind-else-behind-ne0.ensures ∙ no-y)
    ])

pub returns-then-behind-ne0-clause-none : goal.returns-then-behind-ne0-clause-none
returns-then-behind-ne0-clause-none c = (λ _. more c, λ _. refl)

whole : (c : goal.After-begins-4) → IsUnion c.args.a.leaves c.args.b.leaves (record {
  one = c.least-one.result;
  two = c.least-two.result;
  three = c.least-three.result;
  a = record { one = c.begins.result; two = c.begins-2.result };
  b = record { one = c.begins-3.result; two = c.begins-4.result };
})
whole c =
    Steps-whole c.args.a.leaves c.args.b.leaves _ _ _ _ _ _ _ _ _
    (Steps-of c.args.a c.args.b c.a.inside.leaves c.a.inside.table c.b.inside.leaves c.b.inside.table c.a.invariant c.b.invariant c.a.view_is c.b.view_is _ _ _ _ _ _ _
    c.least-one.ensures c.behind-a2.ensures c.behind-b2.ensures c.least-two.ensures c.behind-a3.ensures c.behind-b3.ensures c.least-three.ensures)
    (sym c.behind.ensures ∙ c.if-behind-ne0.false) (sym c.behind-else-behind-ne0.ensures ∙ c.if-behind-ne0-2.false) _ _ c.begins.ensures c.begins-2.ensures c.begins-3.ensures c.begins-4.ensures

pub returns-clause-none : goal.returns-clause-none
returns-clause-none c = (λ e. absurd (cc), λ many. absurd (let few : length (united c.args.a.leaves c.args.b.leaves) ≤ 3 = length-union _ _ _ (whole c) in omega arith))

pub returns-clause-union : goal.returns-clause-union
returns-clause-union c = whole c
