-- A whole merge of leaves: three steps, after which nothing is left, or a fourth leaf.
use Rattle.std.proofs.Common.{◌≡◌, ◌<◌, ◌≤◌, ◌%◌, ◌^◌, ◌==◌, ◌∙◌, cond, nat_lt, ℕ, zero, suc, true, false, List, [], ◌∷◌, ◌++◌, length, refl, sym, ap, subst, arith}
use Rattle.cut_word.specs.Cut.{CutView, IsCut}
use Rattle.cut_word.specs.Word.{packed, leaf_of, leaves_in, cut_of, AreOfCut}
use Rattle.cut_word.specs.declared.merging.Had.{Had}
use Rattle.cut_word.specs.Steps.{front_of, least_front, behind, where_had, IsUnion}
use Rattle.cut_word.specs.Merge.{united, with_leaf}
use Rattle.cut_word.proofs.Unions.{Rises-from}
use Rattle.cut_word.proofs.WordParts.{Parts, Parts-of}
use Rattle.cut_word.proofs.MergeSteps.{AreLeft, rest_of, packed-none, packed-empty, Step, Step-of}

append-none : (xs : List ℕ) → xs ++ [] ≡ xs
append-none [] = refl
append-none (x ∷ xs) = ap (λ ns. x ∷ ns) (append-none xs)

pub record Steps (xs ys : List ℕ) (x1 y1 one x2 y2 two x3 y3 three : ℕ) : Type 0 where
  pub x-some : 1 ≤ length xs
  pub x-left : AreLeft xs
  pub y-left : AreLeft ys
  pub x1-is : x1 ≡ packed xs
  pub y1-is : y1 ≡ packed ys
  pub one-is : one ≡ least_front (front_of x1) (front_of y1)
  pub x2-is : x2 ≡ behind x1 one
  pub y2-is : y2 ≡ behind y1 one
  pub two-is : two ≡ least_front (front_of x2) (front_of y2)
  pub x3-is : x3 ≡ behind x2 two
  pub y3-is : y3 ≡ behind y2 two
  pub three-is : three ≡ least_front (front_of x3) (front_of y3)

length-leaf_of : (leaf : ℕ) (leaves : List ℕ) → (leaf ≡ 0 → ⊥) → length (leaf_of leaf ++ leaves) ≡ suc (length leaves)
length-leaf_of zero leaves some = absurd (some refl)
length-leaf_of (suc leaf) leaves some = refl

length-with_leaf : (leaf : ℕ) (leaves : List ℕ) → 0 < length (with_leaf leaf leaves)
length-with_leaf leaf [] = omega arith
length-with_leaf leaf (next ∷ leaves) = elim (nat_lt leaf next) as (λ b. 0 < length (cond b (leaf ∷ next ∷ leaves) (cond (leaf == next) (next ∷ leaves) (next ∷ with_leaf leaf leaves)))) [
  | true ↦ omega arith
  | false ↦ elim (leaf == next) as (λ b. 0 < length (cond b (next ∷ leaves) (next ∷ with_leaf leaf leaves))) [ true ↦ omega arith | false ↦ omega arith ]
]

length-united : (xs ys : List ℕ) → (xs ≡ [] → ys ≡ [] → ⊥) → 0 < length (united xs ys)
length-united [] [] some = absurd (some refl refl)
length-united [] (y ∷ ys) some = omega arith
length-united (x ∷ xs) ys some = length-with_leaf x (united xs ys)

module _ (xs ys : List ℕ) (x1 y1 one x2 y2 two x3 y3 three : ℕ) (s : Steps xs ys x1 y1 one x2 y2 two x3 y3 three) where
  first : Step x1 y1 one xs ys
  first = Step-of x1 y1 one xs ys s.x-left s.y-left s.x1-is s.y1-is s.one-is

  second : Step x2 y2 two (rest_of xs one) (rest_of ys one)
  second = Step-of x2 y2 two (rest_of xs one) (rest_of ys one) first.x-left first.y-left (s.x2-is ∙ first.x-behind) (s.y2-is ∙ first.y-behind) s.two-is

  third : Step x3 y3 three (rest_of (rest_of xs one) two) (rest_of (rest_of ys one) two)
  third = Step-of x3 y3 three (rest_of (rest_of xs one) two) (rest_of (rest_of ys one) two) second.x-left second.y-left (s.x3-is ∙ second.x-behind) (s.y3-is ∙ second.y-behind) s.three-is

  one-some : one ≡ 0 → ⊥
  one-some e = let none : length xs ≡ 0 = ap length (first.none e).0 in let some : 1 ≤ length xs = s.x-some in omega arith

  two-none : two ≡ 0 → three ≡ 0
  two-none e = third.empty (ap (λ ns. rest_of ns two) (second.none e).0) (ap (λ ns. rest_of ns two) (second.none e).1)

  unions : united xs ys ≡ leaf_of one ++ (leaf_of two ++ (leaf_of three ++ united (rest_of (rest_of (rest_of xs one) two) three) (rest_of (rest_of (rest_of ys one) two) three)))
  unions = first.union ∙ ap (λ us. leaf_of one ++ us) (second.union ∙ ap (λ us. leaf_of two ++ us) third.union)

  -- Where more is left, the union has a fourth leaf.
  pub Steps-more : (behind x3 three ≡ 0 → behind y3 three ≡ 0 → ⊥) → 3 < length (united xs ys)
  Steps-more more =
      let left : rest_of (rest_of (rest_of xs one) two) three ≡ [] → rest_of (rest_of (rest_of ys one) two) three ≡ [] → ⊥ =
      λ no-xs no-ys. more (third.x-behind ∙ ap packed no-xs ∙ packed-empty) (third.y-behind ∙ ap packed no-ys ∙ packed-empty) in
      let three-some : three ≡ 0 → ⊥ = λ e. left (ap (λ ns. rest_of ns three) (third.none e).0) (ap (λ ns. rest_of ns three) (third.none e).1) in
      let fourth : 0 < length (united (rest_of (rest_of (rest_of xs one) two) three) (rest_of (rest_of (rest_of ys one) two) three)) =
      length-united (rest_of (rest_of (rest_of xs one) two) three) (rest_of (rest_of (rest_of ys one) two) three) left in
      rw (unions, length-leaf_of one _ one-some, length-leaf_of two _ (λ e. three-some (two-none e)), length-leaf_of three _ three-some) (omega arith)

  -- Where none is left, the three are the union, and each cut has its part of them.
  module _ (no-x : behind x3 three ≡ 0) (no-y : behind y3 three ≡ 0) where
    x-end : rest_of (rest_of (rest_of xs one) two) three ≡ []
    x-end = packed-none (rest_of (rest_of (rest_of xs one) two) three) (sym third.x-behind ∙ no-x)

    y-end : rest_of (rest_of (rest_of ys one) two) three ≡ []
    y-end = packed-none (rest_of (rest_of (rest_of ys one) two) three) (sym third.y-behind ∙ no-y)

    three-leaves : united xs ys ≡ leaf_of one ++ (leaf_of two ++ leaf_of three)
    three-leaves =
        unions
        ∙ ap (λ ns. leaf_of one ++ (leaf_of two ++ (leaf_of three ++ united ns (rest_of (rest_of (rest_of ys one) two) three)))) x-end
        ∙ ap (λ ns. leaf_of one ++ (leaf_of two ++ (leaf_of three ++ ns))) y-end
        ∙ ap (λ ns. leaf_of one ++ (leaf_of two ++ ns)) (append-none (leaf_of three))

    x-part : xs ≡ where_had (front_of x1 == one) (leaf_of one) ++ (where_had (front_of x2 == two) (leaf_of two) ++ where_had (front_of x3 == three) (leaf_of three))
    x-part =
        first.x-has
        ∙ ap (λ ns. where_had (front_of x1 == one) (leaf_of one) ++ ns) (second.x-has
        ∙ ap (λ ns. where_had (front_of x2 == two) (leaf_of two) ++ ns) (third.x-has
        ∙ ap (λ ns. where_had (front_of x3 == three) (leaf_of three) ++ ns) x-end ∙ append-none (where_had (front_of x3 == three) (leaf_of three))))

    y-part : ys ≡ where_had (front_of y1 == one) (leaf_of one) ++ (where_had (front_of y2 == two) (leaf_of two) ++ where_had (front_of y3 == three) (leaf_of three))
    y-part =
        first.y-has
        ∙ ap (λ ns. where_had (front_of y1 == one) (leaf_of one) ++ ns) (second.y-has
        ∙ ap (λ ns. where_had (front_of y2 == two) (leaf_of two) ++ ns) (third.y-has
        ∙ ap (λ ns. where_had (front_of y3 == three) (leaf_of three) ++ ns) y-end ∙ append-none (where_had (front_of y3 == three) (leaf_of three))))

    pub Steps-whole : (a b : Had) → a.one ≡ (front_of x1 == one) → a.two ≡ (front_of x2 == two) → b.one ≡ (front_of y1 == one) → b.two ≡ (front_of y2 == two) → IsUnion xs ys (record { one = one; two = two; three = three; a = a; b = b })
    Steps-whole a b a-one a-two b-one b-two = record {
      leaves = three-leaves;
      some = omega (arith, one-some);
      order = two-none;
      one_fits = first.fits;
      two_fits = second.fits;
      three_fits = third.fits;
      first = (front_of x3 == three, rw (a-one, a-two) x-part);
      second = (front_of y3 == three, rw (b-one, b-two) y-part);
    }

-- The steps over the words of two cuts.
AreLeft-of : (word table : ℕ) (cut : CutView) → AreOfCut word table → cut_of word table ≡ cut → AreLeft cut.leaves
AreLeft-of word table cut are is =
    let cut-is : IsCut cut = subst IsCut is are.cut in
    record { few = cut-is.few; rises = Rises-from cut.leaves cut-is.ascending; low = cut-is.low }

packed-of : (word table : ℕ) (cut : CutView) → AreOfCut word table → cut_of word table ≡ cut → word % 2 ^ 62 ≡ packed cut.leaves
packed-of word table cut are is = let parts : Parts word (leaves_in word) = Parts-of word table are in parts.rest ∙ ap (λ (v : CutView). packed v.leaves) is

pub Steps-of : (a b : CutView) (first-a second-a first-b second-b : ℕ) → AreOfCut first-a second-a → AreOfCut first-b second-b
    → cut_of first-a second-a ≡ a → cut_of first-b second-b ≡ b
    → (one x2 y2 two x3 y3 three : ℕ)
    → one ≡ least_front (front_of (first-a % 2 ^ 62)) (front_of (first-b % 2 ^ 62))
    → x2 ≡ behind (first-a % 2 ^ 62) one → y2 ≡ behind (first-b % 2 ^ 62) one
    → two ≡ least_front (front_of x2) (front_of y2)
    → x3 ≡ behind x2 two → y3 ≡ behind y2 two
    → three ≡ least_front (front_of x3) (front_of y3)
    → Steps a.leaves b.leaves (first-a % 2 ^ 62) (first-b % 2 ^ 62) one x2 y2 two x3 y3 three
Steps-of a b first-a second-a first-b second-b are-a are-b is-a is-b one x2 y2 two x3 y3 three one-is x2-is y2-is two-is x3-is y3-is three-is = record {
  x-some = let cut : IsCut a = subst IsCut is-a are-a.cut in cut.some;
  x-left = AreLeft-of first-a second-a a are-a is-a;
  y-left = AreLeft-of first-b second-b b are-b is-b;
  x1-is = packed-of first-a second-a a are-a is-a;
  y1-is = packed-of first-b second-b b are-b is-b;
  one-is = one-is;
  x2-is = x2-is;
  y2-is = y2-is;
  two-is = two-is;
  x3-is = x3-is;
  y3-is = y3-is;
  three-is = three-is;
}
