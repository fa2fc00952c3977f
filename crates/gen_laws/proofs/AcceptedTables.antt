-- Named tables by the numbers of their names.
use Rattle.std.proofs.Common.{◌≡◌, ◌<◌, ◌+◌, ◌++◌, ◌∙◌, ℕ, true, List, [], ◌∷◌, length, map, flat_map, All, nat_eq, codes, refl, sym, ap, subst, arith, true≢false, ⊎_elim}
use Rattle.std.specs.Str.{bytes_eq}
use Rattle.std.proofs.lemmas.Bool.{or_cases, eqb-true}
use Rattle.std.proofs.lemmas.List.{length-map, map-append}
use Rattle.std.proofs.lemmas.List.Elements.{All-head, All-tail, All-nil, All-cons, All-append, All-push}
use Rattle.net_base.specs.Keys.{is_among}
use Rattle.blif_model.specs.declared.design.Table.{Table}
use Rattle.blif_model.specs.declared.design.Design.{Design}
use Rattle.blif_model.specs.Order.{targets_of}
use Rattle.blif_model.specs.Regular.{IsTable}
use Rattle.blif_read.specs.Spelling.{names_of, line_signals, row_lines, table_lines, IsPlainName, StandFrom}
use Rattle.gen_laws.specs.Named.{NamedTable, named_table_lines, FollowDrivers, IsNamedTable}
use Rattle.gen_laws.proofs.AcceptedNames.{AreAmong, among-left, among-right, among-append, plain-among, number, numbers-back, numbers-within, among-numbers}
use Rattle.gen_laws.proofs.AcceptedOrders.{FollowNumbers}

-- the names of a table's line: its pins, then its target
abbrev pub named_signals : NamedTable → List (List ℕ)
named_signals table = table.pins ++ table.target ∷ []

-- the names of the targets
abbrev pub named_targets : List NamedTable → List (List ℕ)
named_targets tables = map (λ table. table.target) tables

-- Targets are plain, and so are the pins, each of which is driven by an input or by a table before.
pub targets-plain : (tables : List NamedTable) → All IsNamedTable tables → All IsPlainName (named_targets tables)
targets-plain [] are = All-nil IsPlainName
targets-plain (table ∷ tables) are =
    All-cons IsPlainName table.target (named_targets tables) (All-head IsNamedTable table tables are).target (targets-plain tables (All-tail IsNamedTable table tables are))

-- names each of which is among plain ones are plain
pub names-plain : (xs driven : List (List ℕ)) → All IsPlainName driven → All (λ (x : List ℕ). is_among bytes_eq x driven ≡ true) xs → All IsPlainName xs
names-plain [] driven plain among = All-nil IsPlainName
names-plain (x ∷ xs) driven plain among =
    let Driven = λ (y : List ℕ). is_among bytes_eq y driven ≡ true in
    All-cons IsPlainName x xs (plain-among x driven plain (All-head Driven x xs among)) (names-plain xs driven plain (All-tail Driven x xs among))

pub signals-plain : (driven : List (List ℕ)) (tables : List NamedTable) → All IsPlainName driven → All IsNamedTable tables → FollowDrivers driven tables → All IsPlainName (flat_map named_signals tables)
signals-plain driven [] plain are follow = All-nil IsPlainName
signals-plain driven (table ∷ tables) plain are follow =
    let target : IsPlainName table.target = (All-head IsNamedTable table tables are).target in
    All-append IsPlainName (named_signals table) (flat_map named_signals tables)
    (All-push IsPlainName table.pins table.target (names-plain table.pins driven plain follow.0) target)
    (signals-plain (driven ++ table.target ∷ []) tables (All-push IsPlainName driven table.target plain target) (All-tail IsNamedTable table tables are) follow.2)

-- a table without rows is on
abbrev pub HasOutput : Table → Type 0
HasOutput table = length table.rows ≡ 0 → table.on ≡ true

module _ (names : List (List ℕ)) where
  -- a table by numbers, its signals in the line of this number
  abbrev pub numbered_table : ℕ → NamedTable → Table
  numbered_table line table = record { line = line; pins = map (number names) table.pins; target = number names table.target; rows = table.rows; on = table.on }

  -- tables by numbers, the first in the line of this number, each behind the rows of the one before
  abbrev pub numbered_tables : ℕ → List NamedTable → List Table
  numbered_tables line [] = []
  numbered_tables line (table ∷ tables) = numbered_table line table ∷ numbered_tables (line + 1 + length table.rows) tables

  -- The signals and the targets are the numbers of those that are named.
  pub signals-numbered : (line : ℕ) (tables : List NamedTable) → flat_map line_signals (numbered_tables line tables) ≡ map (number names) (flat_map named_signals tables)
  signals-numbered line [] = refl
  signals-numbered line (table ∷ tables) =
      ap (λ xs. xs ++ flat_map line_signals (numbered_tables (line + 1 + length table.rows) tables)) (sym (map-append (number names) table.pins (table.target ∷ [])))
      ∙ ap (λ xs. map (number names) (named_signals table) ++ xs) (signals-numbered (line + 1 + length table.rows) tables)
      ∙ sym (map-append (number names) (named_signals table) (flat_map named_signals tables))

  pub targets-numbered : (line : ℕ) (tables : List NamedTable) → targets_of (numbered_tables line tables) ≡ map (number names) (named_targets tables)
  targets-numbered line [] = refl
  targets-numbered line (table ∷ tables) = ap (λ xs. number names table.target ∷ xs) (targets-numbered (line + 1 + length table.rows) tables)

  pub length-numbered : (line : ℕ) (tables : List NamedTable) → length (numbered_tables line tables) ≡ length tables
  length-numbered line [] = refl
  length-numbered line (table ∷ tables) = omega (arith, length-numbered (line + 1 + length table.rows) tables)

  -- They stand in their lines, and those without rows are on.
  pub stand-numbered : (line : ℕ) (tables : List NamedTable) → StandFrom line (numbered_tables line tables)
  stand-numbered line [] = tt
  stand-numbered line (table ∷ tables) = (refl, stand-numbered (line + 1 + length table.rows) tables)

  pub on-numbered : (line : ℕ) (tables : List NamedTable) → All IsNamedTable tables → All HasOutput (numbered_tables line tables)
  on-numbered line [] are = All-nil HasOutput
  on-numbered line (table ∷ tables) are =
      All-cons HasOutput (numbered_table line table) (numbered_tables (line + 1 + length table.rows) tables) (All-head IsNamedTable table tables are).on
      (on-numbered (line + 1 + length table.rows) tables (All-tail IsNamedTable table tables are))

  -- Their rows fit their pins, and the limits are kept.
  numbered-IsTable : (line : ℕ) (table : NamedTable) → IsNamedTable table → AreAmong names (named_signals table) → IsTable (length names) (numbered_table line table)
  numbered-IsTable line table is among =
      let Below = λ (signal : ℕ). signal < length names in
      let size : length (map (number names) table.pins) ≡ length table.pins = length-map table.pins (number names) in
      record {
        target = All-head Below (number names table.target) [] (numbers-within names (table.target ∷ []) (among-right names table.pins (table.target ∷ []) among));
        pins = numbers-within names table.pins (among-left names table.pins (table.target ∷ []) among);
        few_pins = omega (arith, size, is.few);
        rows = subst (λ n. All (λ row. length row.bits ≡ n) table.rows) (sym size) is.rows;
      }

  pub numbered-AreTables : (line : ℕ) (tables : List NamedTable) → All IsNamedTable tables → AreAmong names (flat_map named_signals tables) → All (IsTable (length names)) (numbered_tables line tables)
  numbered-AreTables line [] are among = All-nil (IsTable (length names))
  numbered-AreTables line (table ∷ tables) are among =
      let first = named_signals table in
      let others = flat_map named_signals tables in
      All-cons (IsTable (length names)) (numbered_table line table) (numbered_tables (line + 1 + length table.rows) tables)
      (numbered-IsTable line table (All-head IsNamedTable table tables are) (among-left names first others among))
      (numbered-AreTables (line + 1 + length table.rows) tables (All-tail IsNamedTable table tables are) (among-right names first others among))

  -- The targets are among the names where all signals are.
  pub targets-among : (tables : List NamedTable) → AreAmong names (flat_map named_signals tables) → AreAmong names (named_targets tables)
  targets-among [] among = tt
  targets-among (table ∷ tables) among =
      let first = named_signals table in
      let others = flat_map named_signals tables in (
        (among-right names table.pins (table.target ∷ []) (among-left names first others among)).0,
        targets-among tables (among-right names first others among),
      )

  -- They stand behind their drivers.
  pub pins-numbered : (pins driven : List (List ℕ)) → AreAmong names pins → AreAmong names driven → All (λ (pin : List ℕ). is_among bytes_eq pin driven ≡ true) pins
      → (pin : ℕ) → is_among nat_eq pin (map (number names) pins) ≡ true → is_among nat_eq pin (map (number names) driven) ≡ true
  pins-numbered [] driven named drivers all pin e = absurd (true≢false (sym e))
  pins-numbered (name ∷ pins) driven named drivers all pin e =
      let Driven = λ (y : List ℕ). is_among bytes_eq y driven ≡ true in
      ⊎_elim {C = is_among nat_eq pin (map (number names) driven) ≡ true}
      (λ here.
      subst (λ s. is_among nat_eq s (map (number names) driven) ≡ true) (sym (eqb-true pin (number names name) here))
      (among-numbers names name driven named.0 drivers ∙ All-head Driven name pins all))
      (λ there. pins-numbered pins driven named.1 drivers (All-tail Driven name pins all) pin there)
      (or_cases (nat_eq pin (number names name)) (is_among nat_eq pin (map (number names) pins)) e)

  pub follow-numbered : (driven : List (List ℕ)) (line : ℕ) (tables : List NamedTable) → AreAmong names driven → AreAmong names (flat_map named_signals tables) → FollowDrivers driven tables
      → FollowNumbers (map (number names) driven) (numbered_tables line tables)
  follow-numbered driven line [] drivers named follow = tt
  follow-numbered driven line (table ∷ tables) drivers named follow =
      let next = line + 1 + length table.rows in
      let first : AreAmong names (named_signals table) = among-left names (named_signals table) (flat_map named_signals tables) named in
      let others : AreAmong names (flat_map named_signals tables) = among-right names (named_signals table) (flat_map named_signals tables) named in
      let target : is_among bytes_eq table.target names ≡ true = (among-right names table.pins (table.target ∷ []) first).0 in (
        pins-numbered table.pins driven (among-left names table.pins (table.target ∷ []) first) drivers follow.0,
        among-numbers names table.target driven target drivers ∙ follow.1,
        subst (λ numbers. FollowNumbers numbers (numbered_tables next tables)) (map-append (number names) driven (table.target ∷ []))
            (follow-numbered (driven ++ table.target ∷ []) next tables (among-append names driven (table.target ∷ []) drivers (target, tt)) others follow.2),
      )

-- Their lines are those of the named tables.
pub lines-numbered : (design : Design) (line : ℕ) (tables : List NamedTable) → AreAmong design.names (flat_map named_signals tables)
    → flat_map (table_lines design) (numbered_tables design.names line tables) ≡ flat_map named_table_lines tables
lines-numbered design line [] among = refl
lines-numbered design line (table ∷ tables) among =
    let names = design.names in
    let next = line + 1 + length table.rows in
    let rest = flat_map (table_lines design) (numbered_tables names next tables) in
    let first : AreAmong names (named_signals table) = among-left names (named_signals table) (flat_map named_signals tables) among in
    let signals : names_of design (line_signals (numbered_table names line table)) ≡ named_signals table =
    ap (names_of design) (sym (map-append (number names) table.pins (table.target ∷ []))) ∙ numbers-back names (named_signals table) first in
    ap (λ tokens. (codes ".names" ∷ tokens) ∷ row_lines table.on table.rows ++ rest) signals
    ∙ ap (λ lines. named_table_lines table ++ lines) (lines-numbered design next tables (among-right names (named_signals table) (flat_map named_signals tables) among))
