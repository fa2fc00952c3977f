-- The heads that the code meets lead all heads. Over the same parts in another order a cell has the same table and cost, and in
-- ascending order of their tables the parts come first; so the least head is among those that are met.
use Rattle.std.proofs.Common.{◌≡◌, ◌<◌, ◌≤◌, ◌+◌, ◌==◌, ◌∙◌, inl, inr, ℕ, true, false, List, [], ◌∷◌, length, None, refl, sym, ap, subst, arith}
use Rattle.std.specs.List.Sorted.{IsPermutation}
use Rattle.std.proofs.lemmas.Bool.{cases_lt}
use Rattle.std.proofs.lemmas.List.Sorted.{IsPermutation-trans, IsPermutation-cons, IsPermutation-swap}
use Rattle.cell_lib.specs.declared.cell.Cell.{Cell}
use Rattle.cell_lib.specs.declared.cell.Cell.TheVariants.{Dro, Not, And, Or, Xor, Maj}
use Rattle.cell_lib.specs.Cell.{arity_of, junctions_of, rank_of}
use Rattle.pattern_table.specs.declared.formula.Formula.{Formula}
use Rattle.pattern_table.specs.declared.heads.Part.{Part}
use Rattle.pattern_table.specs.Least.{table_of_head, is_before, is_lower, least_from, with_table, head_over, all_heads, least_head}
use Rattle.pattern_table.specs.Steps.{single_heads, pair_heads_of, pair_heads, majorities, triple_heads_of, triple_heads, walked_heads, AreAscending}
use Rattle.pattern_table.proofs.Members.{All-has, Has, Has-left, Has-right, Has-either, Has-map, in-map, Has-filter, in-filter}
use Rattle.pattern_table.proofs.AllHeads.{tables_of, table-head_over, AreAmong, Has-all_heads, IsOver, in-all_heads}
use Rattle.pattern_table.proofs.CellTables.{table_over-IsPermutation}
use Rattle.pattern_table.proofs.Order.{not_lower-greater, not_lower-same, not_before-itself, least-same}

-- ---- Heads that are met are heads over the parts.
in-pair_heads : (cell : Cell) (parts : List Part) (head : Formula) → Has (pair_heads cell parts) head → (left right : Part) × Has parts left × Has parts right × (head_over cell (left ∷ right ∷ []) ≡ head)
in-pair_heads cell [] head has = elim has [ ]
in-pair_heads cell (part ∷ parts) head has = elim (Has-either (pair_heads_of cell part (part ∷ parts)) (pair_heads cell parts) head has) [
  | inl here ↦
      let from : (right : Part) × Has (part ∷ parts) right × (head_over cell (part ∷ right ∷ []) ≡ head) = in-map (λ right. head_over cell (part ∷ right ∷ [])) (part ∷ parts) head here in
      (part, from.0, inl refl, from.1, from.2)
  | inr there ↦
      let from : (left right : Part) × Has parts left × Has parts right × (head_over cell (left ∷ right ∷ []) ≡ head) = in-pair_heads cell parts head there in
      (from.0, from.1, inr from.2, inr from.3, from.4)
]

in-triple_heads_of : (left : Part) (parts : List Part) (head : Formula) → Has (triple_heads_of left parts) head → (middle right : Part) × Has parts middle × Has parts right × (head_over Maj (left ∷ middle ∷ right ∷ []) ≡ head)
in-triple_heads_of left [] head has = elim has [ ]
in-triple_heads_of left (part ∷ parts) head has = elim (Has-either (majorities left part (part ∷ parts)) (triple_heads_of left parts) head has) [
  | inl here ↦
      let from : (right : Part) × Has (part ∷ parts) right × (head_over Maj (left ∷ part ∷ right ∷ []) ≡ head) =
      in-map (λ right. head_over Maj (left ∷ part ∷ right ∷ [])) (part ∷ parts) head here in
      (part, from.0, inl refl, from.1, from.2)
  | inr there ↦
      let from : (middle right : Part) × Has parts middle × Has parts right × (head_over Maj (left ∷ middle ∷ right ∷ []) ≡ head) = in-triple_heads_of left parts head there in
      (from.0, from.1, inr from.2, inr from.3, from.4)
]

in-triple_heads : (parts : List Part) (head : Formula) → Has (triple_heads parts) head → (left middle right : Part) × Has parts left × Has parts middle × Has parts right × (head_over Maj (left ∷ middle ∷ right ∷ []) ≡ head)
in-triple_heads [] head has = elim has [ ]
in-triple_heads (part ∷ parts) head has = elim (Has-either (triple_heads_of part (part ∷ parts)) (triple_heads parts) head has) [
  | inl here ↦
      let from : (middle right : Part) × Has (part ∷ parts) middle × Has (part ∷ parts) right × (head_over Maj (part ∷ middle ∷ right ∷ []) ≡ head) =
      in-triple_heads_of part (part ∷ parts) head here in
      (part, from.0, from.1, inl refl, from.2, from.3, from.4)
  | inr there ↦
      let from : (left middle right : Part) × Has parts left × Has parts middle × Has parts right × (head_over Maj (left ∷ middle ∷ right ∷ []) ≡ head) = in-triple_heads parts head there in
      (from.0, from.1, from.2, inr from.3, inr from.4, inr from.5, from.6)
]

module _ (parts : List Part) where
  single-is : (cell : Cell) (head : Formula) → arity_of cell ≡ 1 → Has (single_heads cell parts) head → Has (all_heads parts) head
  single-is cell head pins has =
      let from : (part : Part) × Has parts part × (head_over cell (part ∷ []) ≡ head) = in-map (λ part. head_over cell (part ∷ [])) parts head has in
      subst (Has (all_heads parts)) from.2 (Has-all_heads parts cell (from.0 ∷ []) (from.1, tt) (sym pins))

  pair-is : (cell : Cell) (head : Formula) → arity_of cell ≡ 2 → Has (pair_heads cell parts) head → Has (all_heads parts) head
  pair-is cell head pins has =
      let from : (left right : Part) × Has parts left × Has parts right × (head_over cell (left ∷ right ∷ []) ≡ head) = in-pair_heads cell parts head has in
      subst (Has (all_heads parts)) from.4 (Has-all_heads parts cell (from.0 ∷ from.1 ∷ []) (from.2, (from.3, tt)) (sym pins))

  triple-is : (head : Formula) → Has (triple_heads parts) head → Has (all_heads parts) head
  triple-is head has =
      let from : (left middle right : Part) × Has parts left × Has parts middle × Has parts right × (head_over Maj (left ∷ middle ∷ right ∷ []) ≡ head) = in-triple_heads parts head has in
      subst (Has (all_heads parts)) from.6 (Has-all_heads parts Maj (from.0 ∷ from.1 ∷ from.2 ∷ []) (from.3, (from.4, (from.5, tt))) refl)

  pub walked-among : (head : Formula) → Has (walked_heads parts) head → Has (all_heads parts) head
  unfolding walked_heads
  walked-among head has = elim (Has-either (single_heads Dro parts) _ head has) [
    | inl dro ↦ single-is Dro head refl dro
    | inr has ↦ elim (Has-either (single_heads Not parts) _ head has) [
      | inl not ↦ single-is Not head refl not
      | inr has ↦ elim (Has-either (pair_heads And parts) _ head has) [
        | inl and ↦ pair-is And head refl and
        | inr has ↦ elim (Has-either (pair_heads Or parts) _ head has) [
          | inl or ↦ pair-is Or head refl or
          | inr has ↦ elim (Has-either (pair_heads Xor parts) _ head has) [ inl xor ↦ pair-is Xor head refl xor | inr maj ↦ triple-is head maj ]
        ]
      ]
    ]
  ]

-- ---- Parts in ascending order are met.
pub met-pair : (cell : Cell) (parts : List Part) (left right : Part) → AreAscending parts → Has parts left → Has parts right → left.table ≤ right.table → Has (pair_heads cell parts) (head_over cell (left ∷ right ∷ []))
met-pair cell [] left right rises at-left at-right order = elim at-left [ ]
met-pair cell (part ∷ parts) left right rises at-left at-right order = elim at-left [
  | inl here ↦
      Has-left (pair_heads_of cell part (part ∷ parts)) (pair_heads cell parts) (head_over cell (left ∷ right ∷ []))
      (subst (λ p. Has (pair_heads_of cell part (part ∷ parts)) (head_over cell (p ∷ right ∷ []))) here
      (Has-map (λ r. head_over cell (part ∷ r ∷ [])) (part ∷ parts) right at-right))
  | inr there ↦ elim at-right [
    | inl first ↦
        let below : part.table < left.table = All-has (λ (other : Part). part.table < other.table) parts left rises.0 there in
        let same : part.table ≡ right.table = ap (λ (p : Part). p.table) first in
        absurd (omega arith)
    | inr behind ↦
        Has-right (pair_heads_of cell part (part ∷ parts)) (pair_heads cell parts) (head_over cell (left ∷ right ∷ [])) (met-pair cell parts left right rises.1 there behind order)
  ]
]

met-triple_of : (left : Part) (parts : List Part) (middle right : Part) → AreAscending parts → Has parts middle → Has parts right → middle.table ≤ right.table → Has (triple_heads_of left parts) (head_over Maj (left ∷ middle ∷ right ∷ []))
met-triple_of left [] middle right rises at-middle at-right order = elim at-middle [ ]
met-triple_of left (part ∷ parts) middle right rises at-middle at-right order = elim at-middle [
  | inl here ↦
      Has-left (majorities left part (part ∷ parts)) (triple_heads_of left parts) (head_over Maj (left ∷ middle ∷ right ∷ []))
      (subst (λ p. Has (majorities left part (part ∷ parts)) (head_over Maj (left ∷ p ∷ right ∷ []))) here
      (Has-map (λ r. head_over Maj (left ∷ part ∷ r ∷ [])) (part ∷ parts) right at-right))
  | inr there ↦ elim at-right [
    | inl first ↦
        let below : part.table < middle.table = All-has (λ (other : Part). part.table < other.table) parts middle rises.0 there in
        let same : part.table ≡ right.table = ap (λ (p : Part). p.table) first in
        absurd (omega arith)
    | inr behind ↦
        Has-right (majorities left part (part ∷ parts)) (triple_heads_of left parts) (head_over Maj (left ∷ middle ∷ right ∷ []))
        (met-triple_of left parts middle right rises.1 there behind order)
  ]
]

pub met-triple : (parts : List Part) (left middle right : Part) → AreAscending parts → Has parts left → Has parts middle → Has parts right → left.table ≤ middle.table → middle.table ≤ right.table → Has (triple_heads parts) (head_over Maj (left ∷ middle ∷ right ∷ []))
met-triple [] left middle right rises at-left at-middle at-right low high = elim at-left [ ]
met-triple (part ∷ parts) left middle right rises at-left at-middle at-right low high = elim at-left [
  | inl here ↦
      Has-left (triple_heads_of part (part ∷ parts)) (triple_heads parts) (head_over Maj (left ∷ middle ∷ right ∷ []))
      (subst (λ p. Has (triple_heads_of part (part ∷ parts)) (head_over Maj (p ∷ middle ∷ right ∷ []))) here
      (met-triple_of part (part ∷ parts) middle right rises at-middle at-right high))
  | inr there ↦ elim at-middle [
    | inl first ↦
        let below : part.table < left.table = All-has (λ (other : Part). part.table < other.table) parts left rises.0 there in
        let same : part.table ≡ middle.table = ap (λ (p : Part). p.table) first in
        absurd (omega arith)
    | inr behind ↦ elim at-right [
      | inl first ↦
          let below : part.table < middle.table = All-has (λ (other : Part). part.table < other.table) parts middle rises.0 behind in
          let same : part.table ≡ right.table = ap (λ (p : Part). p.table) first in
          absurd (omega arith)
      | inr last ↦
          Has-right (triple_heads_of part (part ∷ parts)) (triple_heads parts) (head_over Maj (left ∷ middle ∷ right ∷ []))
          (met-triple parts left middle right rises.1 there behind last low high)
    ]
  ]
]

-- ---- Each head has one that is met at its place or before it, with its table.
-- two items change places
swapped : {X : Type 0} (x y : X) (zs : List X) → IsPermutation (x ∷ y ∷ zs) (y ∷ x ∷ zs)
swapped x y zs = IsPermutation-swap (x ∷ y ∷ zs) (y ∷ x ∷ zs) 0 1 (omega arith) (omega arith) refl

turned-table : (cell : Cell) (some turned : List Part) → length some ≡ arity_of cell → length turned ≡ arity_of cell → IsPermutation (tables_of some) (tables_of turned) → table_of_head (head_over cell turned) ≡ table_of_head (head_over cell some)
turned-table cell some turned pins pins' same =
    table-head_over cell turned pins' ∙ table_over-IsPermutation cell (tables_of some) (tables_of turned) same ∙ sym (table-head_over cell some pins)

-- Of two keys of one cost and one rank the tables of the parts decide.
by-parts : (cost cost' rank : ℕ) (xs ys : List ℕ) → cost ≡ cost' → is_lower xs ys ≡ false → is_lower (cost ∷ rank ∷ xs) (cost' ∷ rank ∷ ys) ≡ false
by-parts cost cost' rank xs ys same not-lower = not_lower-same cost cost' (rank ∷ xs) (rank ∷ ys) same (not_lower-same rank rank xs ys refl not-lower)

-- the cost of a cell over two parts, and over three
abbrev cost_of_two : Cell → Part → Part → ℕ
cost_of_two cell one two = junctions_of cell + (one.cost + (two.cost + 0))

abbrev cost_of_three : Part → Part → Part → ℕ
cost_of_three one two three = junctions_of Maj + (one.cost + (two.cost + (three.cost + 0)))

module _ (parts : List Part) (rises : AreAscending parts) where
  -- a head that is met leads another
  abbrev pub Leads : Formula → Type 0
  Leads head = (lead : Formula) × Has (walked_heads parts) lead × (table_of_head lead ≡ table_of_head head) × (is_before head lead ≡ false)

  itself : (head : Formula) → Has (walked_heads parts) head → Leads head
  itself head has = (head, has, refl, not_before-itself head)

  at-dro : (head : Formula) → Has (single_heads Dro parts) head → Has (walked_heads parts) head
  unfolding walked_heads
  at-dro head has = Has-left (single_heads Dro parts) _ head has

  at-not : (head : Formula) → Has (single_heads Not parts) head → Has (walked_heads parts) head
  unfolding walked_heads
  at-not head has = Has-right (single_heads Dro parts) _ head (Has-left (single_heads Not parts) _ head has)

  at-and : (head : Formula) → Has (pair_heads And parts) head → Has (walked_heads parts) head
  unfolding walked_heads
  at-and head has = Has-right (single_heads Dro parts) _ head (Has-right (single_heads Not parts) _ head (Has-left (pair_heads And parts) _ head has))

  at-or : (head : Formula) → Has (pair_heads Or parts) head → Has (walked_heads parts) head
  unfolding walked_heads
  at-or head has =
      Has-right (single_heads Dro parts) _ head (Has-right (single_heads Not parts) _ head (Has-right (pair_heads And parts) _ head (Has-left (pair_heads Or parts) _ head has)))

  at-xor : (head : Formula) → Has (pair_heads Xor parts) head → Has (walked_heads parts) head
  unfolding walked_heads
  at-xor head has =
      Has-right (single_heads Dro parts) _ head (Has-right (single_heads Not parts) _ head (Has-right (pair_heads And parts) _ head
      (Has-right (pair_heads Or parts) _ head (Has-left (pair_heads Xor parts) _ head has))))

  at-maj : (head : Formula) → Has (triple_heads parts) head → Has (walked_heads parts) head
  unfolding walked_heads
  at-maj head has =
      Has-right (single_heads Dro parts) _ head (Has-right (single_heads Not parts) _ head (Has-right (pair_heads And parts) _ head
      (Has-right (pair_heads Or parts) _ head (Has-right (pair_heads Xor parts) _ head has))))

  pair-led : (cell : Cell) → arity_of cell ≡ 2 → ((head : Formula) → Has (pair_heads cell parts) head → Has (walked_heads parts) head) → (a b : Part) → Has parts a → Has parts b → Leads (head_over cell (a ∷ b ∷ []))
  pair-led cell pins at a b at-a at-b = elim (cases_lt b.table a.table) [
    | inl down ↦ (
      head_over cell (b ∷ a ∷ []),
      at (head_over cell (b ∷ a ∷ [])) (met-pair cell parts b a rises at-b at-a (omega arith)),
      turned-table cell (a ∷ b ∷ []) (b ∷ a ∷ []) (sym pins) (sym pins) (swapped a.table b.table []),
      by-parts (cost_of_two cell a b) (cost_of_two cell b a) (rank_of cell) (a.table ∷ 0 ∷ b.table ∷ []) (b.table ∷ 0 ∷ a.table ∷ []) (omega arith)
          (not_lower-greater a.table b.table (0 ∷ b.table ∷ []) (0 ∷ a.table ∷ []) down),
    )
    | inr up ↦ itself (head_over cell (a ∷ b ∷ [])) (at (head_over cell (a ∷ b ∷ [])) (met-pair cell parts a b rises at-a at-b up))
  ]

  module _ (a b d : Part) (at-a : Has parts a) (at-b : Has parts b) (at-d : Has parts d) where
    -- the same three parts in an order in which they ascend
    turned : (x y z : Part) → Has parts x → Has parts y → Has parts z → x.table ≤ y.table → y.table ≤ z.table → cost_of_three a b d ≡ cost_of_three x y z → IsPermutation (a.table ∷ b.table ∷ d.table ∷ []) (x.table ∷ y.table ∷ z.table ∷ []) → is_lower (a.table ∷ b.table ∷ d.table ∷ []) (x.table ∷ y.table ∷ z.table ∷ []) ≡ false → Leads (head_over Maj (a ∷ b ∷ d ∷ []))
    turned x y z at-x at-y at-z low high cost same not-lower = (
      head_over Maj (x ∷ y ∷ z ∷ []),
      at-maj (head_over Maj (x ∷ y ∷ z ∷ [])) (met-triple parts x y z rises at-x at-y at-z low high),
      turned-table Maj (a ∷ b ∷ d ∷ []) (x ∷ y ∷ z ∷ []) refl refl same,
      by-parts (cost_of_three a b d) (cost_of_three x y z) (rank_of Maj) (a.table ∷ b.table ∷ d.table ∷ []) (x.table ∷ y.table ∷ z.table ∷ []) cost not-lower,
    )

    abd-bad : IsPermutation (a.table ∷ b.table ∷ d.table ∷ []) (b.table ∷ a.table ∷ d.table ∷ [])
    abd-bad = swapped a.table b.table (d.table ∷ [])

    abd-adb : IsPermutation (a.table ∷ b.table ∷ d.table ∷ []) (a.table ∷ d.table ∷ b.table ∷ [])
    abd-adb = IsPermutation-cons a.table (b.table ∷ d.table ∷ []) (d.table ∷ b.table ∷ []) (swapped b.table d.table [])

    abd-dab : IsPermutation (a.table ∷ b.table ∷ d.table ∷ []) (d.table ∷ a.table ∷ b.table ∷ [])
    abd-dab =
        IsPermutation-trans (a.table ∷ b.table ∷ d.table ∷ []) (a.table ∷ d.table ∷ b.table ∷ []) (d.table ∷ a.table ∷ b.table ∷ []) abd-adb
        (swapped a.table d.table (b.table ∷ []))

    abd-bda : IsPermutation (a.table ∷ b.table ∷ d.table ∷ []) (b.table ∷ d.table ∷ a.table ∷ [])
    abd-bda =
        IsPermutation-trans (a.table ∷ b.table ∷ d.table ∷ []) (b.table ∷ a.table ∷ d.table ∷ []) (b.table ∷ d.table ∷ a.table ∷ []) abd-bad
        (IsPermutation-cons b.table (a.table ∷ d.table ∷ []) (d.table ∷ a.table ∷ []) (swapped a.table d.table []))

    abd-dba : IsPermutation (a.table ∷ b.table ∷ d.table ∷ []) (d.table ∷ b.table ∷ a.table ∷ [])
    abd-dba =
        IsPermutation-trans (a.table ∷ b.table ∷ d.table ∷ []) (b.table ∷ d.table ∷ a.table ∷ []) (d.table ∷ b.table ∷ a.table ∷ []) abd-bda
        (swapped b.table d.table (a.table ∷ []))

    triple-led : Leads (head_over Maj (a ∷ b ∷ d ∷ []))
    triple-led = elim (cases_lt b.table a.table) [
      | inl b-a ↦ elim (cases_lt d.table a.table) [
        | inl d-a ↦ elim (cases_lt d.table b.table) [
          | inl d-b ↦ turned d b a at-d at-b at-a (omega arith) (omega arith) (omega arith) abd-dba
              (not_lower-greater a.table d.table (b.table ∷ d.table ∷ []) (b.table ∷ a.table ∷ []) d-a)
          | inr b-d ↦ turned b d a at-b at-d at-a b-d (omega arith) (omega arith) abd-bda
              (not_lower-greater a.table b.table (b.table ∷ d.table ∷ []) (d.table ∷ a.table ∷ []) b-a)
        ]
        | inr a-d ↦ turned b a d at-b at-a at-d (omega arith) a-d (omega arith) abd-bad
            (not_lower-greater a.table b.table (b.table ∷ d.table ∷ []) (a.table ∷ d.table ∷ []) b-a)
      ]
      | inr a-b ↦ elim (cases_lt d.table b.table) [
        | inl d-b ↦ elim (cases_lt d.table a.table) [
          | inl d-a ↦ turned d a b at-d at-a at-b (omega arith) a-b (omega arith) abd-dab
              (not_lower-greater a.table d.table (b.table ∷ d.table ∷ []) (a.table ∷ b.table ∷ []) d-a)
          | inr a-d ↦ turned a d b at-a at-d at-b a-d (omega arith) (omega arith) abd-adb
              (not_lower-same a.table a.table (b.table ∷ d.table ∷ []) (d.table ∷ b.table ∷ []) refl
              (not_lower-greater b.table d.table (d.table ∷ []) (b.table ∷ []) d-b))
        ]
        | inr b-d ↦ itself (head_over Maj (a ∷ b ∷ d ∷ [])) (at-maj (head_over Maj (a ∷ b ∷ d ∷ [])) (met-triple parts a b d rises at-a at-b at-d a-b b-d))
      ]
    ]

  led-over : (cell : Cell) (some : List Part) → AreAmong parts some → length some ≡ arity_of cell → Leads (head_over cell some)
  led-over Dro [] among pins = absurd (omega arith)
  led-over Not [] among pins = absurd (omega arith)
  led-over And [] among pins = absurd (omega arith)
  led-over Or [] among pins = absurd (omega arith)
  led-over Xor [] among pins = absurd (omega arith)
  led-over Maj [] among pins = absurd (omega arith)
  led-over Dro (a ∷ []) among pins = itself (head_over Dro (a ∷ [])) (at-dro (head_over Dro (a ∷ [])) (Has-map (λ p. head_over Dro (p ∷ [])) parts a among.0))
  led-over Not (a ∷ []) among pins = itself (head_over Not (a ∷ [])) (at-not (head_over Not (a ∷ [])) (Has-map (λ p. head_over Not (p ∷ [])) parts a among.0))
  led-over And (a ∷ []) among pins = absurd (omega arith)
  led-over Or (a ∷ []) among pins = absurd (omega arith)
  led-over Xor (a ∷ []) among pins = absurd (omega arith)
  led-over Maj (a ∷ []) among pins = absurd (omega arith)
  led-over Dro (a ∷ (b ∷ rest)) among pins = absurd (omega arith)
  led-over Not (a ∷ (b ∷ rest)) among pins = absurd (omega arith)
  led-over And (a ∷ (b ∷ [])) among pins = pair-led And refl at-and a b among.0 among.1.0
  led-over Or (a ∷ (b ∷ [])) among pins = pair-led Or refl at-or a b among.0 among.1.0
  led-over Xor (a ∷ (b ∷ [])) among pins = pair-led Xor refl at-xor a b among.0 among.1.0
  led-over Maj (a ∷ (b ∷ [])) among pins = absurd (omega arith)
  led-over And (a ∷ (b ∷ (d ∷ rest))) among pins = absurd (omega arith)
  led-over Or (a ∷ (b ∷ (d ∷ rest))) among pins = absurd (omega arith)
  led-over Xor (a ∷ (b ∷ (d ∷ rest))) among pins = absurd (omega arith)
  led-over Maj (a ∷ (b ∷ (d ∷ []))) among pins = triple-led a b d among.0 among.1.0 among.1.1.0
  led-over Maj (a ∷ (b ∷ (d ∷ (e ∷ rest)))) among pins = absurd (omega arith)

  led : (head : Formula) → Has (all_heads parts) head → Leads head
  led head has = let over : IsOver parts head = in-all_heads parts head has in subst Leads over.is (led-over over.cell over.some over.among over.pins)

  -- So the least of those that are met is the least of all.
  pub walked-least : (table : ℕ) → least_from None (with_table table (walked_heads parts)) ≡ least_head parts table
  unfolding least_head
  walked-least table = least-same (with_table table (walked_heads parts)) (with_table table (all_heads parts)) among lead
    where
      among : (head : Formula) → Has (with_table table (walked_heads parts)) head → Has (with_table table (all_heads parts)) head
      among head has =
          let from : Has (walked_heads parts) head × ((table_of_head head == table) ≡ true) = in-filter (λ h. table_of_head h == table) (walked_heads parts) head has in
          Has-filter (λ h. table_of_head h == table) (all_heads parts) head (walked-among parts head from.0) from.1

      lead : (head : Formula) → Has (with_table table (all_heads parts)) head → (better : Formula) × Has (with_table table (walked_heads parts)) better × (is_before head better ≡ false)
      lead head has =
          let from : Has (all_heads parts) head × ((table_of_head head == table) ≡ true) = in-filter (λ h. table_of_head h == table) (all_heads parts) head has in
          let leads : Leads head = led head from.0 in
          (leads.0, Has-filter (λ h. table_of_head h == table) (walked_heads parts) leads.0 leads.1 (ap (λ t. t == table) leads.2 ∙ from.1), leads.3)
