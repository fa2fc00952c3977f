-- Two lists of lines that fit in order, over the same bytes, are the same as far as both go: at each place scanning finds one line
-- alone. An end line ends both. So a text has one netlist and one flow, and no spelling has a fault.
use Rattle.std.proofs.Common.{◌≡◌, ◌≢◌, ℕ, List, [], ◌∷◌, ◌++◌, length, refl, sym, ap, subst, ◌∙◌, arith, append_assoc, append-nil, length-append, inl, inr}
use Rattle.flow_net.specs.declared.net.Flow.{Flow}
use Rattle.pulse_net.specs.declared.net.PulseNet.{PulseNet}
use Rattle.pulse_net.specs.Formed.{IsFormed}
use Rattle.netlist_text.specs.declared.fault.TextKind.{TextKind}
use Rattle.netlist_text.specs.declared.fault.TextKind.TheVariants.{BadLine, NoEnd, AfterEnd}
use Rattle.netlist_text.specs.Spelling.{format_of, spelling_of}
use Rattle.netlist_text.specs.Lines.{Line, SoFar, Nothing, Format, Model, Phases, Body, Ended, line_text, texts, with_line, after_lines, Fits, FitInOrder, IsOpen}
use Rattle.netlist_text.specs.Faults.{IsRead, IsBadLine, HasNoEnd, HasWrongFormat, GoesOn, IsFirst}
use Rattle.netlist_text.specs.Laws.{IsTyped, SpellingsDiffer, SpellingsHaveNoFault}
use Rattle.netlist_text.specs.Scanning.{line_at}
use Rattle.netlist_text.proofs.FrontOfBytes.{same_some}
use Rattle.netlist_text.proofs.ScannedLines.{line_at-complete}
use Rattle.netlist_text.proofs.LinesRead.{line_text-some}
use Rattle.netlist_text.proofs.LinesOf.{lines_of, lines_of-go, spelling-lines}

-- the end was read
abbrev IsEnded : SoFar → Type 0
IsEnded (Ended format net flow) = Unit {0}
IsEnded Nothing = ⊥
IsEnded (Format format) = ⊥
IsEnded (Model format model) = ⊥
IsEnded (Phases format model phases) = ⊥
IsEnded (Body format net flow) = ⊥

-- Behind the end no line fits.
no_line : (so : SoFar) (one : Line) → IsEnded so → Fits so one → ⊥
no_line (Ended format net flow) one ended fits = fits
no_line Nothing one ended fits = ended
no_line (Format format) one ended fits = ended
no_line (Model format model) one ended fits = ended
no_line (Phases format model phases) one ended fits = ended
no_line (Body format net flow) one ended fits = ended

not_both : (so : SoFar) → IsOpen so → IsEnded so → ⊥
not_both (Ended format net flow) no_end ended = no_end
not_both Nothing no_end ended = ended
not_both (Format format) no_end ended = ended
not_both (Model format model) no_end ended = ended
not_both (Phases format model phases) no_end ended = ended
not_both (Body format net flow) no_end ended = ended

-- Where two lines fit at one place and stand at the front of the same bytes, they are the same line, before the same rest.
record SameLine (one other : Line) (rest others : List ℕ) : Type 0 where
  line : one ≡ other
  rest_is : rest ≡ others

same_line : (so : SoFar) (one other : Line) (rest others : List ℕ) → Fits so one → Fits so other → line_text one ++ rest ≡ line_text other ++ others → SameLine one other rest others
same_line so one other rest others first second same =
    let pair = same_some (sym (line_at-complete so one rest first) ∙ ap (line_at so) same ∙ line_at-complete so other others second) in
    record { line = ap (λ (p : Line × List ℕ). p.0) pair; rest_is = ap (λ (p : Line × List ℕ). p.1) pair }

-- One line and what follows, on both sides.
heads : (so : SoFar) (x y : Line) (xs ys : List Line) (rest others : List ℕ) → Fits so x → Fits so y → texts (x ∷ xs) ++ rest ≡ texts (y ∷ ys) ++ others → SameLine x y (texts xs ++ rest) (texts ys ++ others)
heads so x y xs ys rest others first second same =
    same_line so x y (texts xs ++ rest) (texts ys ++ others) first second
    (sym (append_assoc (line_text x) (texts xs) rest) ∙ same ∙ append_assoc (line_text y) (texts ys) others)

same_lines : (so : SoFar) (xs ys : List Line) (rest others : List ℕ) → FitInOrder so xs → FitInOrder so ys → IsEnded (after_lines so xs) → IsEnded (after_lines so ys) → texts xs ++ rest ≡ texts ys ++ others → (xs ≡ ys) × (rest ≡ others)
same_lines so [] [] rest others fit fits ended ends same = (refl, same)
same_lines so [] (y ∷ ys) rest others fit fits ended ends same = absurd (no_line so y ended fits.0)
same_lines so (x ∷ xs) [] rest others fit fits ended ends same = absurd (no_line so x ends fit.0)
same_lines so (x ∷ xs) (y ∷ ys) rest others fit fits ended ends same =
    let first = heads so x y xs ys rest others fit.0 fits.0 same in
    let fits_too : FitInOrder (with_line so x) ys = subst (λ (z : Line). FitInOrder (with_line so z) ys) (sym first.line) fits.1 in
    let ends_too : IsEnded (after_lines (with_line so x) ys) = subst (λ (z : Line). IsEnded (after_lines (with_line so z) ys)) (sym first.line) ends in
    let more = same_lines (with_line so x) xs ys rest others fit.1 fits_too ended ends_too first.rest_is in
    (ap (λ (z : Line). z ∷ xs) first.line ∙ ap (λ (zs : List Line). y ∷ zs) more.0, more.1)

-- Lines without an end are a front of those with one: the next of these fits behind them.
record NextLine (so : SoFar) (rest : List ℕ) : Type 0 where
  line : Line
  behind : List ℕ
  fits : Fits so line
  whole : rest ≡ line_text line ++ behind

next_line : (so : SoFar) (xs ys : List Line) (rest others : List ℕ) → FitInOrder so xs → FitInOrder so ys → IsOpen (after_lines so xs) → IsEnded (after_lines so ys) → texts xs ++ rest ≡ texts ys ++ others → NextLine (after_lines so xs) rest
next_line so [] [] rest others fit fits no_end ends same = absurd (not_both so no_end ends)
next_line so [] (y ∷ ys) rest others fit fits no_end ends same = record { line = y; behind = texts ys ++ others; fits = fits.0; whole = same ∙ append_assoc (line_text y) (texts ys) others }
next_line so (x ∷ xs) [] rest others fit fits no_end ends same = absurd (no_line so x ends fit.0)
next_line so (x ∷ xs) (y ∷ ys) rest others fit fits no_end ends same =
    let first = heads so x y xs ys rest others fit.0 fits.0 same in
    let fits_too : FitInOrder (with_line so x) ys = subst (λ (z : Line). FitInOrder (with_line so z) ys) (sym first.line) fits.1 in
    let ends_too : IsEnded (after_lines (with_line so x) ys) = subst (λ (z : Line). IsEnded (after_lines (with_line so z) ys)) (sym first.line) ends in
    next_line (with_line so x) xs ys rest others fit.1 fits_too no_end ends_too first.rest_is

-- ---- the laws

pub spellings_differ : SpellingsDiffer
spellings_differ net other flow more rest others formed typed formed_too typed_too same =
    let go = lines_of-go net flow formed typed in
    let go_too = lines_of-go other more formed_too typed_too in
    let bytes : texts (lines_of net flow) ++ rest ≡ texts (lines_of other more) ++ others =
    ap (λ front. front ++ rest) (sym (spelling-lines net flow formed typed)) ∙ same ∙ ap (λ front. front ++ others) (spelling-lines other more formed_too typed_too) in
    let ended : IsEnded (after_lines Nothing (lines_of net flow)) = subst IsEnded (sym go.said) tt in
    let ends : IsEnded (after_lines Nothing (lines_of other more)) = subst IsEnded (sym go_too.said) tt in
    let lines = same_lines Nothing (lines_of net flow) (lines_of other more) rest others go.fit go_too.fit ended ends bytes in
    let said : Ended (format_of net.elements) net flow ≡ Ended (format_of other.elements) other more = sym go.said ∙ ap (after_lines Nothing) lines.0 ∙ go_too.said in
    let nets : net ≡ other = cc in
    let flows : flow ≡ more = cc in
    (nets, flows, lines.1)

module _ (net : PulseNet) (flow : Flow) (rest : List ℕ) (formed : IsFormed net) (typed : IsTyped net flow) where
  -- Lines that are read from a spelling, up to the end, are its own.
  ended-whole : (count format : ℕ) (read_net : PulseNet) (read_flow : Flow) (read_rest : List ℕ) → IsRead (spelling_of net flow ++ rest) count (Ended format read_net read_flow) read_rest → (format ≡ format_of read_net.elements) × (read_rest ≡ rest)
  ended-whole count format read_net read_flow read_rest read =
      let go = lines_of-go net flow formed typed in
      let ended : IsEnded (after_lines Nothing read.lines) = subst IsEnded (sym read.said) tt in
      let ends : IsEnded (after_lines Nothing (lines_of net flow)) = subst IsEnded (sym go.said) tt in
      let bytes : texts read.lines ++ read_rest ≡ texts (lines_of net flow) ++ rest = sym read.whole ∙ ap (λ front. front ++ rest) (spelling-lines net flow formed typed) in
      let lines = same_lines Nothing read.lines (lines_of net flow) read_rest rest read.fit go.fit ended ends bytes in
      let said : Ended format read_net read_flow ≡ Ended (format_of net.elements) net flow = sym read.said ∙ ap (after_lines Nothing) lines.0 ∙ go.said in
      let nets : read_net ≡ net = cc in
      let formats : format ≡ format_of net.elements = cc in
      (formats ∙ ap (λ (n : PulseNet). format_of n.elements) (sym nets), lines.1)

  -- Behind lines without the end the next line of the spelling fits.
  open-next : (count : ℕ) (so : SoFar) (read_rest : List ℕ) → IsRead (spelling_of net flow ++ rest) count so read_rest → IsOpen so → NextLine so read_rest
  open-next count so read_rest read no_end =
      let go = lines_of-go net flow formed typed in
      let still_open : IsOpen (after_lines Nothing read.lines) = subst IsOpen (sym read.said) no_end in
      let ends : IsEnded (after_lines Nothing (lines_of net flow)) = subst IsEnded (sym go.said) tt in
      let bytes : texts read.lines ++ read_rest ≡ texts (lines_of net flow) ++ rest = sym read.whole ∙ ap (λ front. front ++ rest) (spelling-lines net flow formed typed) in
      let next = next_line Nothing read.lines (lines_of net flow) read_rest rest read.fit go.fit still_open ends bytes in
      subst (λ (s : SoFar). NextLine s read_rest) read.said next

  no_bad_line : (number : ℕ) → IsBadLine (spelling_of net flow ++ rest) number → ⊥
  no_bad_line number bad =
      let next = open-next bad.count bad.so bad.rest bad.read bad.no_end in
      bad.unfit next.line next.behind next.fits next.whole

  an_end : (number : ℕ) → HasNoEnd (spelling_of net flow ++ rest) number → ⊥
  an_end number none =
      let next = open-next none.count none.so [] none.read none.no_end in
      let some = line_text-some none.so next.line next.fits in
      absurd (omega (arith, some, ap length next.whole, length-append (line_text next.line) next.behind))

  right_format : (number : ℕ) → HasWrongFormat (spelling_of net flow ++ rest) number → ⊥
  right_format number wrong = wrong.other (ended-whole wrong.count wrong.format wrong.net wrong.flow wrong.rest wrong.read).0

  what_follows : (number : ℕ) → GoesOn (spelling_of net flow ++ rest) number → rest ≡ [] → ⊥
  what_follows number on none = on.some ((ended-whole on.count on.format on.net on.flow on.rest on.read).1 ∙ none)

  no_first : (kind : TextKind) (number : ℕ) → IsFirst kind (spelling_of net flow ++ rest) number → kind ≢ AfterEnd → ⊥
  no_first BadLine number (inl bad) other = no_bad_line number bad
  no_first BadLine number (inr wrong) other = right_format number wrong
  no_first NoEnd number none other = an_end number none
  no_first AfterEnd number on other = other refl

  none_first : (kind : TextKind) (number : ℕ) → IsFirst kind (spelling_of net flow ++ rest) number → rest ≡ [] → ⊥
  none_first BadLine number (inl bad) none = no_bad_line number bad
  none_first BadLine number (inr wrong) none = right_format number wrong
  none_first NoEnd number no_end none = an_end number no_end
  none_first AfterEnd number on none = what_follows number on none

pub spellings_have_no_fault : SpellingsHaveNoFault
spellings_have_no_fault net flow rest fault formed typed = (
  λ first. no_first net flow rest formed typed fault.kind fault.line first.0 first.1,
  λ first. none_first net flow [] formed typed fault.kind fault.line (subst (λ (bytes : List ℕ). IsFirst fault.kind bytes fault.line) (sym (append-nil (spelling_of net flow))) first) refl,
)
