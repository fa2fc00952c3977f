-- The tables of each depth: each once, in ascending order, with costs that are small.
use Rattle.std.proofs.Common.{◌≡◌, ◌<◌, ◌≤◌, ◌+◌, ◌*◌, ◌^◌, ◌==◌, ◌∙◌, ℕ, zero, suc, true, List, [], ◌∷◌, ◌++◌, length, take, Option, Some, None, refl, sym, ap, subst, arith, eqb-true}
use Rattle.std.specs.List.{All, filter_map, cons_option, range_with_len}
use Rattle.std.specs.Option.{option_map}
use Rattle.std.proofs.lemmas.List.Elements.{All-cons, All-weaker, filter_map-append}
use Rattle.std.proofs.lemmas.List.{append-nil}
use Rattle.cell_lib.specs.declared.cell.Cell.{Cell}
use Rattle.cell_lib.specs.declared.cell.Cell.TheVariants.{Dro, Not, And, Or, Xor, Maj}
use Rattle.cell_lib.specs.Cell.{junctions_of}
use Rattle.cell_lib.proofs.CallerLemmas.{arity_of-few}
use Rattle.pattern_table.specs.declared.formula.Formula.{Formula}
use Rattle.pattern_table.specs.declared.heads.Part.{Part}
use Rattle.pattern_table.specs.Formula.{total, leaf_tables}
use Rattle.pattern_table.specs.Least.{table_of_head, with_table, all_heads, least_head, part_with, parts_above, leaf_parts, parts_at}
use Rattle.pattern_table.specs.Steps.{entry, part_in, parts_in, IsLevelOver, AreAscending, AreCheap}
use Rattle.pattern_table.proofs.Members.{Has, in-map, All-has, All-from-has, in-filter, in-filter_map, Has-filter_map, Has-range, in-range}
use Rattle.pattern_table.proofs.Order.{IsFirst, least-first}
use Rattle.pattern_table.proofs.AllHeads.{tables_of, costs_of, cost-head_with, AreAmong, IsOver, in-all_heads}

-- ---- The parts above others
-- A least head is a head over the parts, of its table.
pub least_head-is : (parts : List Part) (table : ℕ) (head : Formula) → least_head parts table ≡ Some head → Has (all_heads parts) head × (table_of_head head ≡ table)
unfolding least_head
least_head-is parts table head is =
    let of : IsFirst (with_table table (all_heads parts)) head = least-first (with_table table (all_heads parts)) head is in
    let from : Has (all_heads parts) head × ((table_of_head head == table) ≡ true) = in-filter (λ h. table_of_head h == table) (all_heads parts) head of.there in
    (from.0, eqb-true (table_of_head head) table from.1)

-- what a part above others tells
pub record IsAbove (parts : List Part) (part : Part) : Type 0 where
  pub byte : part.table < 256
  pub head : Formula
  pub least : least_head parts part.table ≡ Some head
  pub cost : head.cost ≡ part.cost

in-option_map : {X Y : Type 0} (f : X → Y) (o : Option X) (y : Y) → option_map f o ≡ Some y → (x : X) × (o ≡ Some x) × (f x ≡ y)
in-option_map f None y is = absurd (cc)
in-option_map f (Some x) y is = (x, refl, let e : f x ≡ y = cc in e)

pub in-parts_above : (parts : List Part) (part : Part) → Has (parts_above parts) part → IsAbove parts part
unfolding parts_above
in-parts_above parts part has =
    let from : (table : ℕ) × Has (range_with_len 0 256) table × (part_with parts table ≡ Some part) = in-filter_map (part_with parts) (range_with_len 0 256) part has in
    let made : (head : Formula) × (least_head parts from.0 ≡ Some head) × (record { table = from.0; cost = head.cost } ≡ part) =
    in-option_map (λ (head : Formula). record { table = from.0; cost = head.cost }) (least_head parts from.0) part from.2 in
    let table : from.0 ≡ part.table = ap (λ (p : Part). p.table) made.2 in
    record {
      byte = subst (λ t. t < 256) table (in-range 0 256 from.0 from.1).1;
      head = made.0;
      least = ap (least_head parts) (sym table) ∙ made.1;
      cost = ap (λ (p : Part). p.cost) made.2;
    }

pub Has-parts_above : (parts : List Part) (table : ℕ) (head : Formula) → table < 256 → least_head parts table ≡ Some head → Has (parts_above parts) (record { table = table; cost = head.cost })
unfolding parts_above
Has-parts_above parts table head byte is =
    Has-filter_map (part_with parts) (range_with_len 0 256) table (record { table = table; cost = head.cost }) (Has-range 0 256 table (omega arith) (omega arith))
    (ap (option_map (λ (h : Formula). record { table = table; cost = h.cost })) is)

-- ---- Ascending
-- each part has the number that it was made of as its table
abbrev KeepsTables : (ℕ → Option Part) → Type 0
KeepsTables f = (k : ℕ) (part : Part) → f k ≡ Some part → part.table ≡ k

-- parts ascend from a number on
abbrev AscendFrom : ℕ → List Part → Type 0
AscendFrom a parts = AreAscending parts × All (λ (part : Part). a ≤ part.table) parts

ascending-next : (a : ℕ) (first : Option Part) (parts : List Part) → ((part : Part) → first ≡ Some part → part.table ≡ a) → AscendFrom (a + 1) parts → AscendFrom a (cons_option first parts)
ascending-next a None parts is rest = (rest.0, All-weaker (λ (part : Part). a + 1 ≤ part.table) (λ (part : Part). a ≤ part.table) (λ part h. omega arith) parts rest.1)
ascending-next a (Some part) parts is rest =
    let table : part.table ≡ a = is part refl in (
      (All-weaker (λ (other : Part). a + 1 ≤ other.table) (λ (other : Part). part.table < other.table) (λ other h. omega (arith, table, h)) parts rest.1, rest.0),
      All-cons (λ (other : Part). a ≤ other.table) part parts (omega (arith, table))
          (All-weaker (λ (other : Part). a + 1 ≤ other.table) (λ (other : Part). a ≤ other.table) (λ other h. omega arith) parts rest.1),
    )

-- Parts that are made of ascending numbers ascend.
ascending-range : (f : ℕ → Option Part) → KeepsTables f → (a n : ℕ) → AscendFrom a (filter_map f (range_with_len a n))
ascending-range f keeps a zero = (tt, λ k d h. absurd (omega arith))
ascending-range f keeps a (suc n) = ascending-next a (f a) (filter_map f (range_with_len (a + 1) n)) (keeps a) (ascending-range f keeps (a + 1) n)

part_with-keeps : (parts : List Part) → KeepsTables (part_with parts)
part_with-keeps parts k part is =
    let made : (head : Formula) × (least_head parts k ≡ Some head) × (record { table = k; cost = head.cost } ≡ part) =
    in-option_map (λ (head : Formula). record { table = k; cost = head.cost }) (least_head parts k) part is in
    ap (λ (p : Part). p.table) (sym made.2)

one-above : (n m : ℕ) (parts : List Part) → n < m → All (λ (other : Part). n < other.table) parts → All (λ (other : Part). n < other.table) (record { table = m; cost = 0 } ∷ parts)
one-above n m parts below all = All-cons (λ (other : Part). n < other.table) (record { table = m; cost = 0 }) parts below all

none-above : (n : ℕ) → All (λ (other : Part). n < other.table) []
none-above n = λ k d h. absurd (omega arith)

ascending-leaves : (size : ℕ) → size ≤ 3 → AreAscending (leaf_parts size)
ascending-leaves zero few = tt
ascending-leaves (suc zero) few = (none-above 0xAA, tt)
ascending-leaves (suc (suc zero)) few = (one-above 0xAA 0xCC [] (omega arith) (none-above 0xAA), (none-above 0xCC, tt))
ascending-leaves (suc (suc (suc zero))) few = (
  one-above 0xAA 0xCC (record { table = 0xF0; cost = 0 } ∷ []) (omega arith) (one-above 0xAA 0xF0 [] (omega arith) (none-above 0xAA)),
  (one-above 0xCC 0xF0 [] (omega arith) (none-above 0xCC), (none-above 0xF0, tt)),
)
ascending-leaves (suc (suc (suc (suc n)))) few = absurd (omega arith)

pub ascending-parts_at : (size depth : ℕ) → size ≤ 3 → AreAscending (parts_at size depth)
unfolding parts_above
ascending-parts_at size zero few = ascending-leaves size few
ascending-parts_at size (suc depth) few = (ascending-range (part_with (parts_at size depth)) (part_with-keeps (parts_at size depth)) 0 256).0

-- ---- Small costs
-- no cost is above this
abbrev AreUpTo : ℕ → List Part → Type 0
AreUpTo most parts = All (λ (part : Part). part.cost ≤ most) parts

-- what a part of a depth costs at most: three parts and a majority
abbrev most_at : ℕ → ℕ
most_at zero = 0
most_at (suc depth) = 13 + 3 * most_at depth

junctions_of-few : (cell : Cell) → junctions_of cell ≤ 13
junctions_of-few Dro = omega arith
junctions_of-few Not = omega arith
junctions_of-few And = omega arith
junctions_of-few Or = omega arith
junctions_of-few Xor = omega arith
junctions_of-few Maj = omega arith

-- Of up to three parts the costs are at most three times the largest.
total-few : (most : ℕ) (parts some : List Part) → AreUpTo most parts → AreAmong parts some → length some ≤ 3 → total (costs_of some) ≤ 3 * most
total-few most parts [] few among short = omega arith
total-few most parts (a ∷ []) few among short =
    let one : a.cost ≤ most = All-has (λ (part : Part). part.cost ≤ most) parts a few among.0 in omega (arith, one)
total-few most parts (a ∷ (b ∷ [])) few among short =
    let one : a.cost ≤ most = All-has (λ (part : Part). part.cost ≤ most) parts a few among.0 in
    let two : b.cost ≤ most = All-has (λ (part : Part). part.cost ≤ most) parts b few among.1.0 in omega (arith, one, two)
total-few most parts (a ∷ (b ∷ (d ∷ []))) few among short =
    let one : a.cost ≤ most = All-has (λ (part : Part). part.cost ≤ most) parts a few among.0 in
    let two : b.cost ≤ most = All-has (λ (part : Part). part.cost ≤ most) parts b few among.1.0 in
    let three : d.cost ≤ most = All-has (λ (part : Part). part.cost ≤ most) parts d few among.1.1.0 in omega (arith, one, two, three)
total-few most parts (a ∷ (b ∷ (d ∷ (e ∷ some)))) few among short = absurd (omega arith)

cost-head : (most : ℕ) (parts : List Part) (head : Formula) → AreUpTo most parts → Has (all_heads parts) head → head.cost ≤ 13 + 3 * most
cost-head most parts head few has =
    let over : IsOver parts head = in-all_heads parts head has in
    let cost : head.cost ≡ junctions_of over.cell + total (costs_of over.some) =
    ap (λ (f : Formula). f.cost) (sym over.is) ∙ cost-head_with over.cell (tables_of over.some) (junctions_of over.cell + total (costs_of over.some)) in
    let short : length over.some ≤ 3 = subst (λ n. n ≤ 3) (sym over.pins) (arity_of-few over.cell) in
    omega (arith, cost, junctions_of-few over.cell, total-few most parts over.some few over.among short)

up_to-parts_above : (most : ℕ) (parts : List Part) → AreUpTo most parts → AreUpTo (13 + 3 * most) (parts_above parts)
up_to-parts_above most parts few =
    All-from-has (λ (part : Part). part.cost ≤ 13 + 3 * most) (parts_above parts) (λ part has.
    let above : IsAbove parts part = in-parts_above parts part has in
    let cost : above.head.cost ≤ 13 + 3 * most = cost-head most parts above.head few (least_head-is parts part.table above.head above.least).0 in
    omega (arith, cost, above.cost))

free-leaves : (size : ℕ) → AreUpTo 0 (leaf_parts size)
free-leaves size = All-from-has (λ (part : Part). part.cost ≤ 0) (leaf_parts size) (λ part has.
    let from : (table : ℕ) × Has (take size leaf_tables) table × (record { table = table; cost = 0 } ≡ part) =
    in-map (λ (table : ℕ). record { table = table; cost = 0 }) (take size leaf_tables) part has in
    let cost : 0 ≡ part.cost = ap (λ (p : Part). p.cost) from.2 in
    omega (arith, cost))

up_to-parts_at : (size depth : ℕ) → AreUpTo (most_at depth) (parts_at size depth)
up_to-parts_at size zero = free-leaves size
up_to-parts_at size (suc depth) = up_to-parts_above (most_at depth) (parts_at size depth) (up_to-parts_at size depth)

most_at-few : (depth : ℕ) → depth ≤ 3 → most_at depth < 2 ^ 32
most_at-few zero few = omega arith
most_at-few (suc zero) few = omega arith
most_at-few (suc (suc zero)) few = omega arith
most_at-few (suc (suc (suc zero))) few = omega arith
most_at-few (suc (suc (suc (suc depth)))) few = absurd (omega arith)

pub cheap-parts_at : (size depth : ℕ) → depth ≤ 3 → AreCheap (parts_at size depth)
cheap-parts_at size depth few =
    All-weaker (λ (part : Part). part.cost ≤ most_at depth) (λ (part : Part). part.cost < 2 ^ 32) (λ part h. omega (arith, h, most_at-few depth few)) (parts_at size depth) (up_to-parts_at size depth)

-- A least formula of a depth up to 4 costs at most 520 junctions.
most_at-head : (depth : ℕ) → depth ≤ 3 → 13 + 3 * most_at depth ≤ 520
most_at-head zero few = omega arith
most_at-head (suc zero) few = omega arith
most_at-head (suc (suc zero)) few = omega arith
most_at-head (suc (suc (suc zero))) few = omega arith
most_at-head (suc (suc (suc (suc depth)))) few = absurd (omega arith)

pub cost-least_head : (size depth table : ℕ) (head : Formula) → least_head (parts_at size depth) table ≡ Some head → depth ≤ 3 → head.cost ≤ 520
cost-least_head size depth table head is few =
    let cost : head.cost ≤ 13 + 3 * most_at depth = cost-head (most_at depth) (parts_at size depth) head (up_to-parts_at size depth) (least_head-is (parts_at size depth) table head is).0 in
    omega (arith, cost, most_at-head depth few)

-- ---- From a level to the parts above
filter_map-same : {X : Type 0} (f g : ℕ → Option X) (a n : ℕ) → ((k : ℕ) → k < a + n → f k ≡ g k) → filter_map f (range_with_len a n) ≡ filter_map g (range_with_len a n)
filter_map-same f g a zero same = refl
filter_map-same f g a (suc n) same =
    ap (λ o. cons_option o (filter_map f (range_with_len (a + 1) n))) (same a (omega arith))
    ∙ ap (cons_option (g a)) (filter_map-same f g (a + 1) n (λ k h. same k (omega arith)))

-- The tables that a level over parts has are the parts above.
pub parts_in-level : (parts : List Part) (level : List (Option Formula)) → IsLevelOver parts level → parts_in level ≡ parts_above parts
unfolding parts_in parts_above IsLevelOver
parts_in-level parts level is =
    filter_map-same (part_in level) (part_with parts) 0 256
    (λ table h. ap (option_map (λ (head : Formula). record { table = table; cost = head.cost })) (is table (omega arith)))

-- One table more of a level, which it has,
range-more : (a n : ℕ) → range_with_len a (suc n) ≡ range_with_len a n ++ (a + n) ∷ []
range-more a zero = ap (λ k. k ∷ []) (omega arith)
range-more a (suc n) = ap (λ ks. a ∷ ks) (range-more (a + 1) n ∙ ap (λ k. range_with_len (a + 1) n ++ k ∷ []) (omega arith))

parts-next : (level : List (Option Formula)) (n : ℕ) → filter_map (part_in level) (range_with_len 0 (n + 1)) ≡ filter_map (part_in level) (range_with_len 0 n) ++ cons_option (part_in level n) []
parts-next level n =
    ap (λ k. filter_map (part_in level) (range_with_len 0 k)) (let e : n + 1 ≡ suc n = omega arith in e)
    ∙ ap (filter_map (part_in level)) (range-more 0 n ∙ ap (λ k. range_with_len 0 n ++ k ∷ []) (let e : 0 + n ≡ n = omega arith in e))
    ∙ filter_map-append (part_in level) (range_with_len 0 n) (n ∷ [])

pub parts-some : (level : List (Option Formula)) (n : ℕ) (head : Formula) (parts : List Part) → entry level n ≡ Some head → parts ≡ filter_map (part_in level) (range_with_len 0 n) → parts ++ record { table = n; cost = head.cost } ∷ [] ≡ filter_map (part_in level) (range_with_len 0 (n + 1))
parts-some level n head parts is before =
    ap (λ (ps : List Part). ps ++ record { table = n; cost = head.cost } ∷ []) before
    ∙ sym (parts-next level n ∙ ap (λ (o : Option Formula). filter_map (part_in level) (range_with_len 0 n) ++ cons_option (option_map (λ (f : Formula). record { table = n; cost = f.cost }) o) []) is)

-- and one that it hasn't.
pub parts-none : (level : List (Option Formula)) (n : ℕ) (parts : List Part) → entry level n ≡ None → parts ≡ filter_map (part_in level) (range_with_len 0 n) → parts ≡ filter_map (part_in level) (range_with_len 0 (n + 1))
parts-none level n parts is before =
    before
    ∙ sym (parts-next level n
    ∙ ap (λ (o : Option Formula). filter_map (part_in level) (range_with_len 0 n) ++ cons_option (option_map (λ (f : Formula). record { table = n; cost = f.cost }) o) []) is
    ∙ append-nil (filter_map (part_in level) (range_with_len 0 n)))
