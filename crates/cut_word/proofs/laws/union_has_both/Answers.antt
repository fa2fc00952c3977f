use Rattle.std.proofs.Common.{inl, inr}
use Rattle.cut_word.specs.Merge.{united}
use Rattle.cut_word.proofs.Unions.{Rises-from, IsStrictlyIncreasing-from, Rises-united, Has-from, Contains-from, Has-united}
use Rattle.cut_word.proofs.laws.union_has_both.Goals as goal

pub returns : goal.returns
returns c = λ xs ys up-xs up-ys. (
  IsStrictlyIncreasing-from (united xs ys) (Rises-united xs ys (Rises-from ys up-ys)),
  λ leaf. (
    λ has. elim ((Has-united xs ys leaf).0 (Has-from (united xs ys) leaf has)) [ inl mine ↦ inl (Contains-from xs leaf mine) | inr mine ↦ inr (Contains-from ys leaf mine) ],
    λ has. Contains-from (united xs ys) leaf ((Has-united xs ys leaf).1 (elim has [ inl mine ↦ inl (Has-from xs leaf mine) | inr mine ↦ inr (Has-from ys leaf mine) ])),
  ),
)
