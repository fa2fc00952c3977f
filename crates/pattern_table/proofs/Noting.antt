-- Noting heads in a level: nothing, one head after others, and heads while the parts are walked.
use Rattle.std.proofs.Common.{◌≡◌, ◌<◌, ◌≤◌, ◌+◌, ◌++◌, ◌==◌, ◌∙◌, ℕ, zero, suc, replicate, true, false, List, [], ◌∷◌, length, drop, Option, None, inl, inr, refl, sym, ap, subst, eqb-true}
use Rattle.std.proofs.lemmas.List.{drop_all}
use Rattle.std.proofs.lemmas.List.Elements.{filter-append}
use Rattle.std.proofs.lemmas.Bool.{cases_Bool, cond-true, cond-false, eq-eqb}
use Rattle.pattern_table.specs.declared.formula.Formula.{Formula}
use Rattle.pattern_table.specs.declared.heads.Part.{Part}
use Rattle.pattern_table.specs.Least.{table_of_head, better, least_from, with_table}
use Rattle.pattern_table.specs.Steps.{entry, AreNoted}

-- Of heads one after the other the first in order is that of the later ones and of the first in order of the earlier ones.
pub least_from-append : (best : Option Formula) (heads more : List Formula) → least_from best (heads ++ more) ≡ least_from (least_from best heads) more
least_from-append best [] more = refl
least_from-append best (head ∷ heads) more = least_from-append (better best head) heads more

pub with_table-append : (table : ℕ) (heads more : List Formula) → with_table table (heads ++ more) ≡ with_table table heads ++ with_table table more
with_table-append table heads more = filter-append (λ head. table_of_head head == table) heads more

pub AreNoted-none : (level : List (Option Formula)) → AreNoted [] level level
unfolding AreNoted
AreNoted-none level table h = refl

pub AreNoted-append : (heads more : List Formula) (old between new : List (Option Formula)) → AreNoted heads old between → AreNoted more between new → AreNoted (heads ++ more) old new
unfolding AreNoted
AreNoted-append heads more old between new first second table h =
    second table h
    ∙ ap (λ e. least_from e (with_table table more)) (first table h)
    ∙ sym (ap (least_from (entry old table)) (with_table-append table heads more) ∙ least_from-append (entry old table) (with_table table heads) (with_table table more))

-- A head of a table changes the entry of the table alone.
pub AreNoted-one : (head : Formula) (table : ℕ) (level new : List (Option Formula)) → table ≡ table_of_head head → ((other : ℕ) → other < 256 → (other ≡ table → ⊥) → entry new other ≡ entry level other) → entry new table ≡ better (entry level table) head → AreNoted (head ∷ []) level new
unfolding AreNoted
AreNoted-one head table level new is others here other h = elim (cases_Bool (table_of_head head == other)) [
  | inl same ↦
      let at : table ≡ other = is ∙ eqb-true (table_of_head head) other same in
      sym (ap (entry new) at) ∙ here ∙ ap (λ n. better (entry level n) head) at ∙ sym (ap (least_from (entry level other)) (cond-true (table_of_head head == other) (head ∷ []) [] same))
  | inr differs ↦
      others other h (λ e. both_ways-eq (sym is ∙ sym e) differs)
      ∙ sym (ap (least_from (entry level other)) (cond-false (table_of_head head == other) (head ∷ []) [] differs))
]
  where
    both_ways-eq : {a b : ℕ} → a ≡ b → (a == b) ≡ false → ⊥
    both_ways-eq {a = a} {b = b} e f = let t : (a == b) ≡ true = eq-eqb a b e in cc

-- What is left to do of a walk over parts, from a level on, makes of it what the whole walk makes of the level at its begin.
abbrev pub Walks : (List Part → List Formula) → List Part → ℕ → List (Option Formula) → List (Option Formula) → Type 0
Walks heads parts done initial level = (final : List (Option Formula)) → AreNoted (heads (drop done parts)) level final → AreNoted (heads parts) initial final

-- A step of a walk, which notes the heads of the next part.
pub Walks-step : (heads : List Part → List Formula) (parts : List Part) (done : ℕ) (initial level next : List (Option Formula)) (more : List Formula) → heads (drop done parts) ≡ more ++ heads (drop (done + 1) parts) → AreNoted more level next → Walks heads parts done initial level → Walks heads parts (done + 1) initial next
Walks-step heads parts done initial level next more is noted walks final rest =
    walks final (subst (λ hs. AreNoted hs level final) (sym is) (AreNoted-append more (heads (drop (done + 1) parts)) level next final noted rest))

-- At the end of a walk nothing is left.
pub Walks-end : (heads : List Part → List Formula) (parts : List Part) (done : ℕ) (initial level : List (Option Formula)) → heads [] ≡ [] → length parts ≤ done → Walks heads parts done initial level → AreNoted (heads parts) initial level
Walks-end heads parts done initial level none all walks =
    walks level (subst (λ hs. AreNoted hs level level) (sym (ap heads (drop_all done parts all) ∙ none)) (AreNoted-none level))

nothing-there : (n k : ℕ) → entry (replicate n None) k ≡ None
nothing-there zero k = refl
nothing-there (suc n) zero = refl
nothing-there (suc n) (suc k) = nothing-there n k

-- What is noted in a level without formulas is the first of the heads of each table.
pub AreNoted-empty : (heads : List Formula) (level : List (Option Formula)) (n : ℕ) → AreNoted heads (replicate n None) level → (table : ℕ) → table < 256 → entry level table ≡ least_from None (with_table table heads)
unfolding AreNoted
AreNoted-empty heads level n noted table h = noted table h ∙ ap (λ e. least_from e (with_table table heads)) (nothing-there n table)
