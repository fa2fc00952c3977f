-- Each line has one line feed, its last byte: neither names nor numbers have any. So a spelling has as many as it has lines.
use Rattle.std.proofs.Common.{◌≡◌, ◌+◌, ◌&&◌, ℕ, Bool, true, false, List, [], ◌∷◌, ◌++◌, length, All, Option, Some, None, codes, decimal, refl, sym, ap, ◌∙◌, arith}
use Rattle.std.specs.Char.{is_ascii_digit}
use Rattle.std.specs.List.{list_all}
use Rattle.std.proofs.lemmas.Bool.Decides.{Decides-eqb}
use Rattle.std.proofs.lemmas.List.Elements.{All-nil, All-cons, All-head, All-tail}
use Rattle.cell_lib.specs.declared.cell.Cell.{Cell}
use Rattle.cell_lib.specs.declared.cell.Cell.TheVariants.{Dro, Not, And, Or, Xor, Maj}
use Rattle.net_base.specs.Name.{IsName, IsNameByte}
use Rattle.pulse_net.specs.declared.net.Element.TheVariants.{Clocked, Split}
use Rattle.pulse_net.specs.declared.net.Outlet.{Outlet}
use Rattle.pulse_net.specs.declared.net.Outlet.TheVariants.{Zero, One, Wire}
use Rattle.netlist_text.specs.Spelling.{fields, line, model_line, name_line, wire_word, outlet_word, cell_word}
use Rattle.netlist_text.specs.Lines.{Line, FormatLine, ModelLine, PhasesLine, LatencyLine, InputLine, ElementLine, OutputLine, FlowLine, EndLine, SoFar, Nothing, Format, Model, Phases, Body, line_text, texts, with_line, Fits, FitInOrder, IsSmall, IsSmallWire, IsSmallOutlet}
use Rattle.netlist_text.specs.Laws.{LinesEndWithLineFeeds}
use Rattle.netlist_text.specs.Read.{is_line_feed, line_feeds}
use Rattle.netlist_text.proofs.FrontOfBytes.{decimal_digits}
use Rattle.netlist_text.proofs.SpelledLines.{counted_lines}
use Rattle.netlist_text.proofs.LinesOf.{lines_of, lines_of-go, spelling-lines}

abbrev feeds : List ℕ → ℕ
feeds bytes = line_feeds bytes

feeds-append : (xs ys : List ℕ) → feeds (xs ++ ys) ≡ feeds xs + feeds ys
feeds-append [] ys = omega arith
feeds-append (x ∷ xs) ys = omega (arith, feeds-append xs ys)

other_byte : (byte : ℕ) → (byte ≡ 10 → ⊥) → is_line_feed byte ≡ false
other_byte byte other = by (is_line_feed byte) (λ same. other ((Decides-eqb byte 10).0 same))
  where
    by : (one : Bool) → (one ≡ true → ⊥) → one ≡ false
    by true never = absurd (never refl)
    by false never = refl

feeds-name : (name : List ℕ) → All IsNameByte name → feeds name ≡ 0
feeds-name [] all = refl
feeds-name (byte ∷ name) all =
    let one = All-head IsNameByte byte name all in
    let visible = one.0 in
    let other : is_line_feed byte ≡ false = other_byte byte (λ same. omega (arith, same, visible)) in
    let rest = feeds-name name (All-tail IsNameByte byte name all) in
    rw other (omega (arith, rest))

feeds-digits : (ds : List ℕ) → list_all is_ascii_digit ds ≡ true → feeds ds ≡ 0
feeds-digits [] all = refl
feeds-digits (d ∷ ds) all = by (is_ascii_digit d) refl (feeds-digits ds) all
  where
    by : (one : Bool) → is_ascii_digit d ≡ one → (list_all is_ascii_digit ds ≡ true → feeds ds ≡ 0) → (one && list_all is_ascii_digit ds) ≡ true → feeds (d ∷ ds) ≡ 0
    by true is more rest =
        let other : is_line_feed d ≡ false = other_byte d (λ same. let wrong : is_ascii_digit 10 ≡ true = ap is_ascii_digit (sym same) ∙ is in cc) in
        let none = more rest in
        rw other (omega (arith, none))
    by false is more rest = absurd cc

feeds-decimal : (n : ℕ) → IsSmall n → feeds (decimal n) ≡ 0
feeds-decimal n small = feeds-digits (decimal n) (decimal_digits n small)

feeds-fields : (numbers : List ℕ) → All IsSmall numbers → feeds (fields numbers) ≡ 0
feeds-fields [] small = refl
feeds-fields (n ∷ numbers) small =
    omega (arith, feeds-append (codes " " ++ decimal n) (fields numbers), feeds-append (codes " ") (decimal n), feeds-decimal n (All-head IsSmall n numbers small), feeds-fields numbers (All-tail IsSmall n numbers small))

feeds-line : (word numbers : List ℕ) → feeds word ≡ 0 → All IsSmall numbers → feeds (line word numbers) ≡ 1
unfolding line
feeds-line word numbers none small = omega (arith, feeds-append (word ++ fields numbers) (codes "\n"), feeds-append word (fields numbers), feeds-fields numbers small, none)

feeds-name_line : (word name last : List ℕ) → feeds word ≡ 0 → IsName name → feeds last ≡ 0 → feeds (name_line word name last) ≡ 1
feeds-name_line word name last none named none_too =
    omega (
      arith,
      feeds-append (((word ++ codes " ") ++ name) ++ last) (codes "\n"),
      feeds-append ((word ++ codes " ") ++ name) last,
      feeds-append (word ++ codes " ") name,
      feeds-append word (codes " "),
      feeds-name name named.visible,
      none,
      none_too,
    )

feeds-wire : (wire : Option ℕ) → IsSmallWire wire → feeds (wire_word wire) ≡ 0
feeds-wire None small = refl
feeds-wire (Some wire) small = omega (arith, feeds-append (codes " ") (decimal wire), feeds-decimal wire small)

feeds-outlet : (outlet : Outlet) → IsSmallOutlet outlet → feeds (outlet_word outlet) ≡ 0
feeds-outlet Zero small = refl
feeds-outlet One small = refl
feeds-outlet (Wire wire) small = omega (arith, feeds-append (codes " ") (decimal wire), feeds-decimal wire small)

feeds-cell : (cell : Cell) → feeds (cell_word cell) ≡ 0
feeds-cell Dro = refl
feeds-cell Not = refl
feeds-cell And = refl
feeds-cell Or = refl
feeds-cell Xor = refl
feeds-cell Maj = refl

one_small : (n : ℕ) → IsSmall n → All IsSmall (n ∷ [])
one_small n small = All-cons IsSmall n [] small (All-nil IsSmall)

-- A line that fits has one line feed.
one_feed : (so : SoFar) (one : Line) → Fits so one → feeds (line_text one) ≡ 1
unfolding model_line
one_feed Nothing (FormatLine format) fits =
    let few = fits.1 in
    feeds-line (codes "rsfq") (format ∷ []) refl (one_small format (omega arith))
one_feed (Format format) (ModelLine model) fits =
    omega (arith, feeds-append ((codes "model" ++ codes " ") ++ model) (codes "\n"), feeds-append (codes "model" ++ codes " ") model, feeds-name model fits.visible)
one_feed (Model format model) (PhasesLine phases) fits =
    let few = fits.1 in
    feeds-line (codes "phases") (phases ∷ []) refl (one_small phases (omega arith))
one_feed (Phases format model phases) (LatencyLine latency) fits = feeds-line (codes "latency") (latency ∷ []) refl (one_small latency fits.1)
one_feed (Body format net flow) (InputLine name wire) fits = feeds-name_line (codes "input") name (wire_word wire) refl fits.named (feeds-wire wire fits.small)
one_feed (Body format net flow) (ElementLine (Clocked cell stage pins out)) fits = feeds-line (cell_word cell) (stage ∷ (pins ++ out ∷ [])) (feeds-cell cell) fits.small
one_feed (Body format net flow) (ElementLine (Split from left right)) fits = feeds-line (codes "split") (from ∷ left ∷ right ∷ []) refl fits.small
one_feed (Body format net flow) (OutputLine name outlet) fits = feeds-name_line (codes "output") name (outlet_word outlet) refl fits.named (feeds-outlet outlet fits.small)
one_feed (Body format net flow) (FlowLine units) fits = feeds-line (codes "flow") (units.forward ∷ units.back ∷ []) refl (All-cons IsSmall units.forward (units.back ∷ []) fits.0 (one_small units.back fits.1))
one_feed (Body format net flow) EndLine fits = refl
one_feed so one fits = absurd fits

feeds-texts : (so : SoFar) (lines : List Line) → FitInOrder so lines → feeds (texts lines) ≡ length lines
feeds-texts so [] fit = refl
feeds-texts so (one ∷ lines) fit = omega (arith, feeds-append (line_text one) (texts lines), one_feed so one fit.0, feeds-texts (with_line so one) lines fit.1)

pub lines_end_with_line_feeds : LinesEndWithLineFeeds
lines_end_with_line_feeds net flow formed typed =
    let go = lines_of-go net flow formed typed in
    ap feeds (spelling-lines net flow formed typed) ∙ feeds-texts Nothing (lines_of net flow) go.fit ∙ counted_lines net flow (lines_of net flow) go.fit go.said
