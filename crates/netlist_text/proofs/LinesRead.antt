-- Lines one after the other. What a text says so far grows by the line that is scanned, and where none is, it has its fault.
use Rattle.std.proofs.Common.{◌≡◌, ◌≢◌, ◌<◌, ◌≤◌, ◌+◌, ℕ, List, [], ◌∷◌, ◌++◌, length, Option, Some, None, refl, sym, ap, subst, ◌∙◌, arith, append_assoc, append-nil, length-append, inl}
use Rattle.std.proofs.lemmas.List.{length_push}
use Rattle.cell_lib.specs.declared.cell.Cell.TheVariants.{Dro, Not, And, Or, Xor, Maj}
use Rattle.pulse_net.specs.declared.net.Element.TheVariants.{Clocked, Split}
use Rattle.netlist_text.specs.Spelling.{line, model_line}
use Rattle.netlist_text.specs.Lines.{Line, FormatLine, ModelLine, PhasesLine, LatencyLine, InputLine, ElementLine, OutputLine, FlowLine, EndLine, SoFar, Nothing, line_text, texts, with_line, after_lines, Fits, FitInOrder, IsOpen}
use Rattle.netlist_text.specs.Faults.{IsRead, IsFaultOfPrefix}
use Rattle.netlist_text.specs.Scanning.{line_at, stepped, seen, unread}
use Rattle.netlist_text.proofs.FrontOfBytes.{same_some}
use Rattle.netlist_text.proofs.ScannedLines.{IsScanned, line_at-sound, line_at-complete}

after_lines-push : (so : SoFar) (lines : List Line) (one : Line) → after_lines so (lines ++ one ∷ []) ≡ with_line (after_lines so lines) one
after_lines-push so [] one = refl
after_lines-push so (line ∷ lines) one = after_lines-push (with_line so line) lines one

FitInOrder-push : (so : SoFar) (lines : List Line) (one : Line) → FitInOrder so lines → Fits (after_lines so lines) one → FitInOrder so (lines ++ one ∷ [])
FitInOrder-push so [] one fit fits = (fits, tt)
FitInOrder-push so (line ∷ lines) one fit fits = (fit.0, FitInOrder-push (with_line so line) lines one fit.1 fits)

texts-push : (lines : List Line) (one : Line) → texts (lines ++ one ∷ []) ≡ texts lines ++ line_text one
texts-push [] one = append-nil (line_text one)
texts-push (line ∷ lines) one = ap (λ more. line_text line ++ more) (texts-push lines one) ∙ sym (append_assoc (line_text line) (texts lines) (line_text one))

-- Before the first line nothing is read.
pub read-start : (bytes : List ℕ) → IsRead bytes 0 Nothing bytes
read-start bytes = record { lines = []; whole = refl; fit = tt; said = refl; counted = refl }

-- A line that fits and stands at the front of what is left is read.
pub read-more : (bytes : List ℕ) (count : ℕ) (so : SoFar) (rest : List ℕ) (one : Line) (next : List ℕ) → IsRead bytes count so rest → IsScanned so rest one next → IsRead bytes (count + 1) (with_line so one) next
read-more bytes count so rest one next read scanned =
    let counted = read.counted in
    let fits : Fits (after_lines Nothing read.lines) one = subst (λ (s : SoFar). Fits s one) (sym read.said) scanned.fits in
    record {
      lines = read.lines ++ one ∷ [];
      whole =
          read.whole ∙ ap (λ more. texts read.lines ++ more) scanned.whole
          ∙ sym (append_assoc (texts read.lines) (line_text one) next)
          ∙ ap (λ front. front ++ next) (sym (texts-push read.lines one));
      fit = FitInOrder-push Nothing read.lines one read.fit fits;
      said = after_lines-push Nothing read.lines one ∙ ap (λ (s : SoFar). with_line s one) read.said;
      counted = omega (arith, length_push read.lines one, counted);
    }

pub read-line : (bytes : List ℕ) (count : ℕ) (so : SoFar) (rest : List ℕ) (line : Line) (next : List ℕ) → IsRead bytes count so rest → line_at so rest ≡ Some (line, next) → IsRead bytes (count + 1) (with_line so line) next
read-line bytes count so rest line next read is = read-more bytes count so rest line next read (line_at-sound so rest (line, next) is)

-- The same where a call says what was read before and after.
pub read-step : (bytes : List ℕ) (count : ℕ) (so after : SoFar) (rest next : List ℕ) → IsRead bytes count so rest → seen after (Some next) ≡ stepped so (line_at so rest) → IsRead bytes (count + 1) after next
read-step bytes count so after rest next read is = by (line_at so rest) refl is
  where
    by : (scanned : Option (Line × List ℕ)) → line_at so rest ≡ scanned → seen after (Some next) ≡ stepped so scanned → IsRead bytes (count + 1) after next
    by None at is = absurd cc
    by (Some line) at is =
        let both = same_some is in
        let same : after ≡ with_line so line.0 = ap (λ (pair : SoFar × List ℕ). pair.0) both in
        let behind : next ≡ line.1 = ap (λ (pair : SoFar × List ℕ). pair.1) both in
        rw (same, behind) (read-line bytes count so rest line.0 line.1 read at)

-- Where no line is scanned, the text has its fault here.
pub unread-first : (bytes : List ℕ) (count number : ℕ) (so : SoFar) (rest : List ℕ) → IsRead bytes count so rest → IsOpen so → line_at so rest ≡ None → number ≡ count + 1 → IsFaultOfPrefix bytes (unread rest number)
unread-first bytes count number so [] read no_end none is = (record { count = count; so = so; read = read; no_end = no_end; is = is }, λ end. cc)
unread-first bytes count number so (byte ∷ rest) read no_end none is =
    let unfit : (line : Line) (behind : List ℕ) → Fits so line → (byte ∷ rest) ≢ line_text line ++ behind = λ line behind fits same.
    let scanned = ap (line_at so) same ∙ line_at-complete so line behind fits in
    cc
    in
    (inl (record { count = count; so = so; rest = byte ∷ rest; read = read; no_end = no_end; some = λ end. cc; unfit = unfit; is = is }), λ end. cc)

pub unstepped : (so after : SoFar) (rest : List ℕ) → seen after None ≡ stepped so (line_at so rest) → line_at so rest ≡ None
unstepped so after rest is = by (line_at so rest) is
  where
    by : (scanned : Option (Line × List ℕ)) → seen after None ≡ stepped so scanned → scanned ≡ None
    by None is = refl
    by (Some line) is = absurd cc

-- A line that is read is not empty, so what is left gets shorter, and there are no more lines than bytes.
pub line_text-some : (so : SoFar) (one : Line) → Fits so one → 0 < length (line_text one)
unfolding line model_line
line_text-some so (FormatLine format) fits = omega arith
line_text-some so (ModelLine model) fits = omega arith
line_text-some so (PhasesLine phases) fits = omega arith
line_text-some so (LatencyLine latency) fits = omega arith
line_text-some so (InputLine name wire) fits = omega arith
line_text-some so (ElementLine (Clocked Dro stage pins out)) fits = omega arith
line_text-some so (ElementLine (Clocked Not stage pins out)) fits = omega arith
line_text-some so (ElementLine (Clocked And stage pins out)) fits = omega arith
line_text-some so (ElementLine (Clocked Or stage pins out)) fits = omega arith
line_text-some so (ElementLine (Clocked Xor stage pins out)) fits = omega arith
line_text-some so (ElementLine (Clocked Maj stage pins out)) fits = omega arith
line_text-some so (ElementLine (Split from left right)) fits = omega arith
line_text-some so (OutputLine name outlet) fits = omega arith
line_text-some so (FlowLine units) fits = omega arith
line_text-some so EndLine fits = omega arith

few_lines : (so : SoFar) (lines : List Line) → FitInOrder so lines → length lines ≤ length (texts lines)
few_lines so [] fit = omega arith
few_lines so (one ∷ lines) fit = omega (arith, line_text-some so one fit.0, few_lines (with_line so one) lines fit.1, length-append (line_text one) (texts lines))

pub read-few : (bytes : List ℕ) (count : ℕ) (so : SoFar) (rest : List ℕ) → IsRead bytes count so rest → count + length rest ≤ length bytes
read-few bytes count so rest read =
    let counted = read.counted in
    omega (arith, counted, few_lines Nothing read.lines read.fit, length-append (texts read.lines) rest, ap length read.whole)

pub step-shorter : (so after : SoFar) (rest next : List ℕ) → seen after (Some next) ≡ stepped so (line_at so rest) → length next < length rest
step-shorter so after rest next is = by (line_at so rest) refl is
  where
    by : (scanned : Option (Line × List ℕ)) → line_at so rest ≡ scanned → seen after (Some next) ≡ stepped so scanned → length next < length rest
    by None at is = absurd cc
    by (Some line) at is =
        let both = same_some is in
        let behind : next ≡ line.1 = ap (λ (pair : SoFar × List ℕ). pair.1) both in
        let scanned = line_at-sound so rest line at in
        omega (arith, line_text-some so line.0 scanned.fits, length-append (line_text line.0) line.1, ap length scanned.whole, ap length behind)
