-- The lines of a spelling are lines of tokens: keywords, plain names, and rows.
use Rattle.std.proofs.Common.{◌≡◌, ◌<◌, ◌-◌, ◌++◌, ◌∷◌, ◌==◌, ℕ, Bool, true, false, List, [], length, map, get_or, flat_map, All, refl, arith, codes}
use Rattle.std.specs.List.{list_all, AllByRecursion}
use Rattle.std.proofs.lemmas.Bool.Decides.{nat_tests}
use Rattle.std.proofs.lemmas.List.Elements.{All-head, All-tail, All-nil, All-cons, All-append}
use Rattle.std.proofs.lemmas.List.Sums.{AllPass-from_list_all, list_all-from_AllPass}
use Rattle.blif_model.specs.declared.design.Bit.{Bit}
use Rattle.blif_model.specs.declared.design.Cube.{Cube}
use Rattle.blif_model.specs.declared.design.Table.{Table}
use Rattle.blif_model.specs.declared.design.Design.{Design}
use Rattle.blif_model.specs.Regular.{IsTable}
use Rattle.blif_read.specs.Rows.{is_bit}
use Rattle.blif_read.specs.Spelling.{names_of, line_signals, char_of, output_char, row_tokens, row_lines, table_lines, design_lines, is_plain_byte, IsPlainName, IsSpellable}
use Rattle.blif_read.proofs.SpelledLines.{is_token_byte, IsOpenToken, IsLineOfTokens, list_all-weaker}
use Rattle.blif_read.proofs.SpelledSteps.{bits_char}

-- a token of bytes that are visible, none of which is a backslash
open_from : (test : ℕ → Bool) → ((byte : ℕ) → test byte ≡ true → is_token_byte byte ≡ true) → ((byte : ℕ) → test byte ≡ true → (byte == 92) ≡ false) → (token : List ℕ) → 0 < length token → list_all test token ≡ true → IsOpenToken token
open_from test visible open_end token some all =
    let last = length token - 1 in
    record {
      some = some;
      visible = list_all-weaker test is_token_byte token visible all;
      open_end = open_end (get_or token last 0) (AllPass-from_list_all test token all last 0 (omega arith));
    }

plain-visible : (byte : ℕ) → is_plain_byte byte ≡ true → is_token_byte byte ≡ true
plain-visible byte plain = grind (arith, nat_tests)

plain-open_end : (byte : ℕ) → is_plain_byte byte ≡ true → (byte == 92) ≡ false
plain-open_end byte plain = grind (arith, nat_tests)

bit-visible : (byte : ℕ) → is_bit byte ≡ true → is_token_byte byte ≡ true
bit-visible byte is = grind (arith, nat_tests)

bit-open_end : (byte : ℕ) → is_bit byte ≡ true → (byte == 92) ≡ false
bit-open_end byte is = grind (arith, nat_tests)

name-IsOpenToken : (name : List ℕ) → IsPlainName name → IsOpenToken name
name-IsOpenToken name is = open_from is_plain_byte plain-visible plain-open_end name (omega (arith, is.some)) (list_all-from_AllPass is_plain_byte name is.plain)

names-AreOpen : (design : Design) → All IsPlainName design.names → (signals : List ℕ) → All (λ signal. signal < length design.names) signals → AllByRecursion IsOpenToken (names_of design signals)
names-AreOpen design plain [] below = tt
names-AreOpen design plain (signal ∷ signals) below =
    let Below = λ (signal : ℕ). signal < length design.names in
    (name-IsOpenToken (get_or design.names signal []) (plain signal [] (All-head Below signal signals below)), names-AreOpen design plain signals (All-tail Below signal signals below))

output-IsOpenToken : (on : Bool) → IsOpenToken (output_char on ∷ [])
output-IsOpenToken true = record { some = omega arith; visible = refl; open_end = refl }
output-IsOpenToken false = record { some = omega arith; visible = refl; open_end = refl }

row-IsLineOfTokens : (on : Bool) (bits : List Bit) → IsLineOfTokens (row_tokens on bits)
row-IsLineOfTokens on [] = record { some = omega arith; tokens_are = (output-IsOpenToken on, tt) }
row-IsLineOfTokens on (bit ∷ bits) =
    let token = map char_of (bit ∷ bits) in
    let some : 0 < length token = omega arith in
    record { some = omega arith; tokens_are = (open_from is_bit bit-visible bit-open_end token some (bits_char (bit ∷ bits)), (output-IsOpenToken on, tt)) }

rows-AreLines : (on : Bool) (rows : List Cube) → AllByRecursion IsLineOfTokens (row_lines on rows)
rows-AreLines on [] = tt
rows-AreLines on (row ∷ rows) = (row-IsLineOfTokens on row.bits, rows-AreLines on rows)

all_append : (lines more : List (List (List ℕ))) → AllByRecursion IsLineOfTokens lines → AllByRecursion IsLineOfTokens more → AllByRecursion IsLineOfTokens (lines ++ more)
all_append [] more are too = too
all_append (line ∷ lines) more are too = (are.0, all_append lines more are.1 too)

module _ (design : Design) (is : IsSpellable design) where
  abbrev Below : ℕ → Type 0
  Below signal = signal < length design.names

  -- a keyword and names
  names_line : (keyword : List ℕ) (signals : List ℕ) → IsOpenToken keyword → All Below signals → IsLineOfTokens (keyword ∷ names_of design signals)
  names_line keyword signals open_keyword below = record { some = omega arith; tokens_are = (open_keyword, names-AreOpen design is.names signals below) }

  tables-AreLines : (tables : List Table) → All (IsTable (length design.names)) tables → AllByRecursion IsLineOfTokens (flat_map (table_lines design) tables)
  tables-AreLines [] are = tt
  tables-AreLines (table ∷ tables) are =
      let here = All-head (IsTable (length design.names)) table tables are in
      let below : All Below (line_signals table) = All-append Below table.pins (table.target ∷ []) here.pins (All-cons Below table.target [] here.target (All-nil Below)) in
      let keyword : IsOpenToken (codes ".names") = record { some = omega arith; visible = refl; open_end = refl } in
      all_append (table_lines design table) (flat_map (table_lines design) tables)
      (names_line (codes ".names") (line_signals table) keyword below, rows-AreLines table.on table.rows)
      (tables-AreLines tables (All-tail (IsTable (length design.names)) table tables are))

  pub design_lines-AreLines : AllByRecursion IsLineOfTokens (design_lines design)
  design_lines-AreLines =
      let model : IsOpenToken (codes ".model") = record { some = omega arith; visible = refl; open_end = refl } in
      let inputs : IsOpenToken (codes ".inputs") = record { some = omega arith; visible = refl; open_end = refl } in
      let outputs : IsOpenToken (codes ".outputs") = record { some = omega arith; visible = refl; open_end = refl } in
      let end : IsOpenToken (codes ".end") = record { some = omega arith; visible = refl; open_end = refl } in
      let first : IsLineOfTokens (codes ".model" ∷ design.name ∷ []) = record { some = omega arith; tokens_are = (model, (name-IsOpenToken design.name is.model, tt)) } in
      let last : IsLineOfTokens (codes ".end" ∷ []) = record { some = omega arith; tokens_are = (end, tt) } in (
        first,
        (
          names_line (codes ".inputs") design.inputs inputs is.regular.inputs.named,
          (
            names_line (codes ".outputs") design.outputs outputs is.regular.outputs.named,
            all_append (flat_map (table_lines design) design.tables) ((codes ".end" ∷ []) ∷ []) (tables-AreLines design.tables is.regular.tables) (last, tt),
          ),
        ),
      )
