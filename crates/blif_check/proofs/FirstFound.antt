-- What passes a test first: among the pins of tables and the outputs, and among tables.
use Rattle.std.proofs.Common.{◌≡◌, ◌<◌, ◌+◌, ◌++◌, ◌∙◌, ◌∷◌, ℕ, Bool, true, false, cond, List, length, get_or, drop, Option, Some, None, refl, sym, ap, true≢false, append_assoc}
use Rattle.std.specs.Prelude.{find}
use Rattle.std.specs.List.{flat_map}
use Rattle.std.specs.Option.{is_some, option_or}
use Rattle.std.proofs.lemmas.List.{drop_more}
use Rattle.std.proofs.lemmas.List.Folds.{find-append}
use Rattle.blif_model.specs.declared.design.Table.{Table}

-- It is among the pins of the next table, or behind them.
pub first-at : (p : ℕ → Bool) (tables : List Table) (i : ℕ) (table : Table) (outputs : List ℕ) → i < length tables → table ≡ get_or tables i table
    → find p (flat_map (λ (t : Table). t.pins) (drop i tables) ++ outputs) ≡ option_or (find p table.pins) (find p (flat_map (λ (t : Table). t.pins) (drop (i + 1) tables) ++ outputs))
first-at p tables i table outputs within at =
    ap (λ ts. find p (flat_map (λ (t : Table). t.pins) ts ++ outputs)) (drop_more tables i table within ∙ ap (λ t. t ∷ drop (i + 1) tables) (sym at))
    ∙ ap (find p) (append_assoc table.pins (flat_map (λ (t : Table). t.pins) (drop (i + 1) tables)) outputs)
    ∙ find-append p table.pins (flat_map (λ (t : Table). t.pins) (drop (i + 1) tables) ++ outputs)

pub option_or-some : (first other : Option ℕ) → is_some first ≡ true → option_or first other ≡ first
option_or-some None other some = absurd (true≢false (sym some))
option_or-some (Some x) other some = refl

pub option_or-none : (first other : Option ℕ) → is_some first ≡ false → option_or first other ≡ other
option_or-none None other none = refl
option_or-none (Some x) other none = absurd (true≢false none)

-- Among tables it is the next one, or one behind.
next-table : (p : Table → Bool) (tables : List Table) (i : ℕ) (table : Table) → i < length tables → table ≡ get_or tables i table → find p (drop i tables) ≡ cond (p table) (Some table) (find p (drop (i + 1) tables))
next-table p tables i table within at = ap (find p) (drop_more tables i table within ∙ ap (λ t. t ∷ drop (i + 1) tables) (sym at))

pub table-here : (p : Table → Bool) (tables : List Table) (i : ℕ) (table : Table) → i < length tables → table ≡ get_or tables i table → p table ≡ true → find p (drop i tables) ≡ Some table
table-here p tables i table within at passes = next-table p tables i table within at ∙ ap (λ b. cond b (Some table) (find p (drop (i + 1) tables))) passes

pub table-behind : (p : Table → Bool) (tables : List Table) (i : ℕ) (table : Table) → i < length tables → table ≡ get_or tables i table → p table ≡ false → find p (drop i tables) ≡ find p (drop (i + 1) tables)
table-behind p tables i table within at fails = next-table p tables i table within at ∙ ap (λ b. cond b (Some table) (find p (drop (i + 1) tables))) fails
