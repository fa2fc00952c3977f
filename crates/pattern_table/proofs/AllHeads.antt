-- Which heads there are over parts: a cell over as many of the parts as it has pins, each of them any of the parts.
use Rattle.std.proofs.Common.{◌≡◌, ◌+◌, ◌∙◌, inl, inr, ℕ, zero, suc, List, [], ◌∷◌, length, map, refl, ap, subst, arith}
use Rattle.cell_lib.specs.declared.cell.Cell.{Cell}
use Rattle.cell_lib.specs.declared.cell.Cell.TheVariants.{Dro, Not, And, Or, Xor, Maj}
use Rattle.cell_lib.specs.Cell.{arity_of, junctions_of}
use Rattle.pattern_table.specs.declared.formula.Formula.{Formula}
use Rattle.pattern_table.specs.declared.heads.Part.{Part}
use Rattle.pattern_table.specs.Formula.{table_over, total}
use Rattle.pattern_table.specs.Least.{head_with, parts_of, table_of_head, lists_of, all_cells, head_over, heads_of, all_heads}
use Rattle.pattern_table.proofs.Members.{Has, Has-map, in-map, Has-flat_map, in-flat_map}

-- the tables of parts, and their costs
abbrev pub tables_of : List Part → List ℕ
tables_of parts = map (λ (part : Part). part.table) parts

abbrev pub costs_of : List Part → List ℕ
costs_of parts = map (λ (part : Part). part.cost) parts

-- ---- What a head tells
pub cell-head_with : (cell : Cell) (tables : List ℕ) (cost : ℕ) → (head_with cell tables cost).cell ≡ cell
cell-head_with cell [] cost = refl
cell-head_with cell (one ∷ []) cost = refl
cell-head_with cell (one ∷ (two ∷ [])) cost = refl
cell-head_with cell (one ∷ (two ∷ (three ∷ rest))) cost = refl

pub cost-head_with : (cell : Cell) (tables : List ℕ) (cost : ℕ) → (head_with cell tables cost).cost ≡ cost
cost-head_with cell [] cost = refl
cost-head_with cell (one ∷ []) cost = refl
cost-head_with cell (one ∷ (two ∷ [])) cost = refl
cost-head_with cell (one ∷ (two ∷ (three ∷ rest))) cost = refl

-- A head that has as many parts as its cell has pins tells their tables.
pub parts_of-head_with : (cell : Cell) (tables : List ℕ) (cost : ℕ) → length tables ≡ arity_of cell → parts_of (head_with cell tables cost) ≡ tables
parts_of-head_with cell [] cost pins = absurd (none cell pins)
  where
    none : (cell : Cell) → 0 ≡ arity_of cell → ⊥
    none Dro e = omega arith
    none Not e = omega arith
    none And e = omega arith
    none Or e = omega arith
    none Xor e = omega arith
    none Maj e = omega arith
parts_of-head_with Dro (one ∷ []) cost pins = refl
parts_of-head_with Not (one ∷ []) cost pins = refl
parts_of-head_with And (one ∷ []) cost pins = absurd (omega arith)
parts_of-head_with Or (one ∷ []) cost pins = absurd (omega arith)
parts_of-head_with Xor (one ∷ []) cost pins = absurd (omega arith)
parts_of-head_with Maj (one ∷ []) cost pins = absurd (omega arith)
parts_of-head_with Dro (one ∷ (two ∷ [])) cost pins = absurd (omega arith)
parts_of-head_with Not (one ∷ (two ∷ [])) cost pins = absurd (omega arith)
parts_of-head_with And (one ∷ (two ∷ [])) cost pins = refl
parts_of-head_with Or (one ∷ (two ∷ [])) cost pins = refl
parts_of-head_with Xor (one ∷ (two ∷ [])) cost pins = refl
parts_of-head_with Maj (one ∷ (two ∷ [])) cost pins = absurd (omega arith)
parts_of-head_with Dro (one ∷ (two ∷ (three ∷ rest))) cost pins = absurd (omega arith)
parts_of-head_with Not (one ∷ (two ∷ (three ∷ rest))) cost pins = absurd (omega arith)
parts_of-head_with And (one ∷ (two ∷ (three ∷ rest))) cost pins = absurd (omega arith)
parts_of-head_with Or (one ∷ (two ∷ (three ∷ rest))) cost pins = absurd (omega arith)
parts_of-head_with Xor (one ∷ (two ∷ (three ∷ rest))) cost pins = absurd (omega arith)
parts_of-head_with Maj (one ∷ (two ∷ (three ∷ []))) cost pins = refl
parts_of-head_with Maj (one ∷ (two ∷ (three ∷ (four ∷ rest)))) cost pins = absurd (omega arith)

pub length-tables : (parts : List Part) → length (tables_of parts) ≡ length parts
length-tables [] = refl
length-tables (part ∷ parts) = ap suc (length-tables parts)

-- Its table is the cell's over them.
pub table-head_over : (cell : Cell) (parts : List Part) → length parts ≡ arity_of cell → table_of_head (head_over cell parts) ≡ table_over cell (tables_of parts)
table-head_over cell parts pins =
    let cost : ℕ = junctions_of cell + total (costs_of parts) in
    ap (λ c. table_over c (parts_of (head_over cell parts))) (cell-head_with cell (tables_of parts) cost)
    ∙ ap (table_over cell) (parts_of-head_with cell (tables_of parts) cost (length-tables parts ∙ pins))

-- ---- Which heads there are
-- each of some is one of these
abbrev pub AreAmong : List Part → List Part → Type 0
AreAmong parts [] = Unit {0}
AreAmong parts (one ∷ some) = Has parts one × AreAmong parts some

pub Has-lists_of : (parts some : List Part) (n : ℕ) → AreAmong parts some → length some ≡ n → Has (lists_of n parts) some
Has-lists_of parts [] zero among many = inl refl
Has-lists_of parts [] (suc n) among many = absurd (omega arith)
Has-lists_of parts (one ∷ some) zero among many = absurd (omega arith)
Has-lists_of parts (one ∷ some) (suc n) among many =
    Has-flat_map (λ part. map (λ rest. part ∷ rest) (lists_of n parts)) parts one (one ∷ some) among.0
    (Has-map (λ rest. one ∷ rest) (lists_of n parts) some (Has-lists_of parts some n among.1 (omega arith)))

pub in-lists_of : (parts some : List Part) (n : ℕ) → Has (lists_of n parts) some → AreAmong parts some × (length some ≡ n)
in-lists_of parts some zero has = elim has [ inl is ↦ subst (λ ps. AreAmong parts ps × (length ps ≡ 0)) is (tt, refl) | inr none ↦ elim none [ ] ]
in-lists_of parts some (suc n) has =
    let from : (part : Part) × Has parts part × Has (map (λ rest. part ∷ rest) (lists_of n parts)) some =
    in-flat_map (λ part. map (λ rest. part ∷ rest) (lists_of n parts)) parts some has in
    let behind : (rest : List Part) × Has (lists_of n parts) rest × (from.0 ∷ rest ≡ some) = in-map (λ rest. from.0 ∷ rest) (lists_of n parts) some from.2 in
    let rest-is : AreAmong parts behind.0 × (length behind.0 ≡ n) = in-lists_of parts behind.0 n behind.1 in
    subst (λ ps. AreAmong parts ps × (length ps ≡ suc n)) behind.2 ((from.1, rest-is.0), omega (arith, rest-is.1))

Has-all_cells : (cell : Cell) → Has all_cells cell
Has-all_cells Dro = inl refl
Has-all_cells Not = inr (inl refl)
Has-all_cells And = inr (inr (inl refl))
Has-all_cells Or = inr (inr (inr (inl refl)))
Has-all_cells Xor = inr (inr (inr (inr (inl refl))))
Has-all_cells Maj = inr (inr (inr (inr (inr (inl refl)))))

pub Has-all_heads : (parts : List Part) (cell : Cell) (some : List Part) → AreAmong parts some → length some ≡ arity_of cell → Has (all_heads parts) (head_over cell some)
Has-all_heads parts cell some among pins =
    Has-flat_map (heads_of parts) all_cells cell (head_over cell some) (Has-all_cells cell)
    (Has-map (head_over cell) (lists_of (arity_of cell) parts) some (Has-lists_of parts some (arity_of cell) among pins))

-- a head of all: its cell and its parts
pub record IsOver (parts : List Part) (head : Formula) : Type 0 where
  pub cell : Cell
  pub some : List Part
  pub among : AreAmong parts some
  pub pins : length some ≡ arity_of cell
  pub is : head_over cell some ≡ head

pub in-all_heads : (parts : List Part) (head : Formula) → Has (all_heads parts) head → IsOver parts head
in-all_heads parts head has =
    let from : (cell : Cell) × Has all_cells cell × Has (heads_of parts cell) head = in-flat_map (heads_of parts) all_cells head has in
    let over : (some : List Part) × Has (lists_of (arity_of from.0) parts) some × (head_over from.0 some ≡ head) =
    in-map (head_over from.0) (lists_of (arity_of from.0) parts) head from.2 in
    let listed : AreAmong parts over.0 × (length over.0 ≡ arity_of from.0) = in-lists_of parts over.0 (arity_of from.0) over.1 in
    record { cell = from.0; some = over.0; among = listed.0; pins = listed.1; is = over.2 }
