use Rattle.std.proofs.Common.{◌≡◌, ◌≢◌, ◌≤◌, ◌<◌, ◌==◌, ◌⊎◌, ℕ, zero, suc, Bool, true, false, cond, Option, Some, None, [], take, refl, sym, ap, arith, ⊎_elim}
use Rattle.std.specs.Prelude.{unwrap_or}
use Rattle.std.proofs.lemmas.Bool.Decides.{nat_tests}
use Rattle.pattern_table.specs.Least.{place_from, leaf_at}
use Rattle.balance_map.proofs.parts.leaf_place.Goals as goal

-- the place of a leaf that may be there
abbrev place : Option ℕ → ℕ
place o = unwrap_or o 0

-- Where a table is neither the second leaf's nor the third one's, it counts as the first one's.
first : (size table : ℕ) → (1 < size → table ≢ 0xCC) → (2 < size → table ≢ 0xF0) → place (leaf_at size table) ≡ 0
first zero table second third = refl
first (suc zero) table second third = by (0xAA == table)
  where
    by : (a : Bool) → place (cond a (Some 0) None) ≡ 0
    by true = refl
    by false = refl
first (suc (suc zero)) table second third = by (0xAA == table) (0xCC == table) (let other : table ≢ 0xCC = second (omega arith) in grind (arith, nat_tests))
  where
    by : (a b : Bool) → b ≡ false → place (cond a (Some 0) (cond b (Some 1) None)) ≡ 0
    by true b e = refl
    by false true e = absurd (cc)
    by false false e = refl
first (suc (suc (suc size))) table second third =
    by (0xAA == table) (0xCC == table) (0xF0 == table) (place_from 3 table (take size []))
    (let other : table ≢ 0xCC = second (omega arith) in grind (arith, nat_tests))
    (let other : table ≢ 0xF0 = third (omega arith) in grind (arith, nat_tests)) (ap (place_from 3 table) (none size))
  where
    none : (n : ℕ) → take {A = ℕ} n [] ≡ []
    none zero = refl
    none (suc n) = refl

    by : (a b d : Bool) (o : Option ℕ) → b ≡ false → d ≡ false → o ≡ None → place (cond a (Some 0) (cond b (Some 1) (cond d (Some 2) o))) ≡ 0
    by true b d o e f is = refl
    by false true d o e f is = absurd (cc)
    by false false true o e f is = absurd (cc)
    by false false false o e f is = ap place is

-- one of two fails
either : (table size value few : ℕ) → ((table ≡ value) × (size ≤ few)) ⊎ (table ≢ value) → few < size → table ≢ value
either table size value few fails many = ⊎_elim {C = table ≢ value} (λ h. absurd (omega (arith, h.1))) (λ h. h) fails

pub returns-else-table-eq-THIRD-clause-place : goal.returns-else-table-eq-THIRD-clause-place
returns-else-table-eq-THIRD-clause-place c =
    sym (first c.args.size c.args.table (either c.args.table c.args.size 0xCC 1 c.else-table-eq-SECOND.either)
    (either c.args.table c.args.size 0xF0 2 c.else-table-eq-THIRD.either))
