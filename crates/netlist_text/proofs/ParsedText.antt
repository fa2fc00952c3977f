-- What is read of bytes as one answer is what the relations say. Lines that fit are read one after the other, since each is the
-- line that is scanned at its place; so where lines lead up to the end, these are answered, and where they lead to a fault, this
-- one. The other way round, what is answered was read by lines that fit.
use Rattle.std.proofs.Common.{◌≡◌, ◌≢◌, ◌≤◌, ◌<◌, ◌+◌, ◌-◌, ◌==◌, ℕ, zero, suc, Bool, true, false, List, [], ◌∷◌, ◌++◌, length, Option, Some, None, Result, Ok, Err, if◌then◌else◌, refl, sym, ap, subst, ◌∙◌, arith, append_assoc, append-nil, length-append, inl, inr}
use Rattle.std.proofs.lemmas.Bool.Decides.{nat_tests}
use Rattle.net_base.specs.Answers.{◌>>=◌, Tells}
use Rattle.flow_net.specs.declared.net.Flow.{Flow}
use Rattle.pulse_net.specs.declared.net.PulseNet.{PulseNet}
use Rattle.netlist_text.specs.declared.fault.TextFault.{TextFault}
use Rattle.netlist_text.specs.declared.fault.TextKind.{TextKind}
use Rattle.netlist_text.specs.declared.fault.TextKind.TheVariants.{BadLine, NoEnd, AfterEnd}
use Rattle.netlist_text.specs.declared.fault.TextReadFault.{TextReadFault}
use Rattle.netlist_text.specs.declared.fault.TextReadFault.TheVariants.{Text, NoMemory}
use Rattle.netlist_text.specs.Spelling.{format_of}
use Rattle.netlist_text.specs.Lines.{Line, SoFar, Nothing, Format, Model, Phases, Body, Ended, line_text, texts, with_line, after_lines, Fits, FitInOrder, IsOpen}
use Rattle.netlist_text.specs.Faults.{IsRead, IsBadLine, HasNoEnd, HasWrongFormat, GoesOn, IsFirst, IsFaultOf, IsFaultOfPrefix}
use Rattle.netlist_text.specs.Scanning.{line_at}
use Rattle.netlist_text.specs.Parsing.{Whole, bad_line, no_line, next_line, up_to_end, whole_from, in_format, whole_of, all_of, parsed, parsed_prefix, prefix_of, told}
use Rattle.netlist_text.proofs.ScannedLines.{IsScanned, line_at-sound, line_at-complete}
use Rattle.netlist_text.proofs.LinesRead.{read-few, line_text-some}

-- what is open isn't the end
pub open-goes_on : (so : SoFar) (count : ℕ) (rest : List ℕ) (more : Result Whole TextFault) → IsOpen so → up_to_end so count rest more ≡ more
open-goes_on Nothing count rest more no_end = refl
open-goes_on (Format format) count rest more no_end = refl
open-goes_on (Model format model) count rest more no_end = refl
open-goes_on (Phases format model phases) count rest more no_end = refl
open-goes_on (Body format net flow) count rest more no_end = refl
open-goes_on (Ended format net flow) count rest more no_end = absurd no_end

-- where a line fits, what is before it is open
fits-open : (so : SoFar) (one : Line) → Fits so one → IsOpen so
fits-open Nothing one fits = tt
fits-open (Format format) one fits = tt
fits-open (Model format model) one fits = tt
fits-open (Phases format model phases) one fits = tt
fits-open (Body format net flow) one fits = tt
fits-open (Ended format net flow) one fits = fits

-- One line that fits is read.
whole_from-line : (more : ℕ) (so : SoFar) (count : ℕ) (one : Line) (rest : List ℕ) → Fits so one → whole_from (suc more) so count (line_text one ++ rest) ≡ whole_from more (with_line so one) (count + 1) rest
unfolding whole_from
whole_from-line more so count one rest fits =
    open-goes_on so count (line_text one ++ rest) _ (fits-open so one fits) ∙ rw (line_at-complete so one rest fits) refl

-- Lines that fit in order are read.
whole_from-lines : (more : ℕ) (so : SoFar) (count : ℕ) (lines : List Line) (rest : List ℕ) → FitInOrder so lines → whole_from (length lines + more) so count (texts lines ++ rest) ≡ whole_from more (after_lines so lines) (count + length lines) rest
whole_from-lines more so count [] rest fit = rw (let same : count + 0 ≡ count = omega arith in same, let none : 0 + more ≡ more = omega arith in none) refl
whole_from-lines more so count (one ∷ lines) rest fit =
    let fuel : length (one ∷ lines) + more ≡ suc (length lines + more) = omega arith in
    let lines_more : count + 1 + length lines ≡ count + length (one ∷ lines) = omega arith in
    rw (fuel, append_assoc (line_text one) (texts lines) rest) (whole_from-line (length lines + more) so count one (texts lines ++ rest) fit.0)
    ∙ whole_from-lines more (with_line so one) (count + 1) lines rest fit.1
    ∙ ap (λ n. whole_from more (after_lines so (one ∷ lines)) n rest) lines_more

-- Where bytes begin with lines that were read, reading goes on behind them.
pub whole_from-read : (bytes : List ℕ) (count : ℕ) (so : SoFar) (rest : List ℕ) → IsRead bytes count so rest → whole_from (length bytes) Nothing 0 bytes ≡ whole_from (length bytes - count) so count rest
whole_from-read bytes count so rest read =
    let counted = read.counted in
    let few = read-few bytes count so rest read in
    let fuel : length bytes ≡ length read.lines + (length bytes - count) = omega (arith, counted, few) in
    let number : 0 + length read.lines ≡ count = omega (arith, counted) in
    ap (λ n. whole_from n Nothing 0 bytes) fuel
    ∙ ap (whole_from (length read.lines + (length bytes - count)) Nothing 0) read.whole
    ∙ whole_from-lines (length bytes - count) Nothing 0 read.lines rest read.fit
    ∙ ap (λ (s : SoFar). whole_from (length bytes - count) s (0 + length read.lines) rest) read.said
    ∙ ap (λ n. whole_from (length bytes - count) so n rest) number

-- What was read up to the end is answered.
pub whole_from-ended : (bytes : List ℕ) (count format : ℕ) (net : PulseNet) (flow : Flow) (rest : List ℕ) → IsRead bytes count (Ended format net flow) rest → whole_from (length bytes) Nothing 0 bytes ≡ Ok (record { format = format; net = net; flow = flow; lines = count; rest = rest })
unfolding whole_from
whole_from-ended bytes count format net flow rest read = whole_from-read bytes count (Ended format net flow) rest read ∙ by (length bytes - count)
  where
    by : (more : ℕ) → whole_from more (Ended format net flow) count rest ≡ Ok (record { format = format; net = net; flow = flow; lines = count; rest = rest })
    by zero = refl
    by (suc more) = refl

-- Where no line is scanned, its fault is answered.
whole_from-no_line : (more : ℕ) (so : SoFar) (count : ℕ) (rest : List ℕ) → IsOpen so → line_at so rest ≡ None → whole_from more so count rest ≡ Err (no_line count rest)
unfolding whole_from
whole_from-no_line zero so count rest no_end none = open-goes_on so count rest _ no_end
whole_from-no_line (suc more) so count rest no_end none = open-goes_on so count rest _ no_end ∙ rw none refl

pub no_line-scanned : (so : SoFar) (rest : List ℕ) → ((read : Line × List ℕ) → line_at so rest ≡ Some read → ⊥) → line_at so rest ≡ None
no_line-scanned so rest never = by (line_at so rest) refl
  where
    by : (scanned : Option (Line × List ℕ)) → line_at so rest ≡ scanned → scanned ≡ None
    by None is = refl
    by (Some read) is = absurd (never read is)

-- where nothing is left, no line is scanned
pub nothing_left : (so : SoFar) → line_at so [] ≡ None
nothing_left so = no_line-scanned so [] (λ read is.
    let scanned = line_at-sound so [] read is in
    let none : 0 ≡ length (line_text read.0 ++ read.1) = ap length scanned.whole in
    absurd (omega (arith, none, line_text-some so read.0 scanned.fits, length-append (line_text read.0) read.1)))

some_bytes : (count number : ℕ) (rest : List ℕ) → rest ≢ [] → number ≡ count + 1 → no_line count rest ≡ record { line = number; kind = BadLine }
some_bytes count number [] some is = absurd (some refl)
some_bytes count number (byte ∷ rest) some is = rw is refl

-- Each first fault is answered.
module _ (bytes : List ℕ) where
  whole-bad_line : (number : ℕ) → IsBadLine bytes number → whole_from (length bytes) Nothing 0 bytes ≡ Err (record { line = number; kind = BadLine })
  whole-bad_line number bad =
      let none = no_line-scanned bad.so bad.rest (λ read is. let scanned = line_at-sound bad.so bad.rest read is in bad.unfit read.0 read.1 scanned.fits scanned.whole) in
      whole_from-read bytes bad.count bad.so bad.rest bad.read
      ∙ whole_from-no_line (length bytes - bad.count) bad.so bad.count bad.rest bad.no_end none
      ∙ rw (some_bytes bad.count number bad.rest bad.some bad.is) refl

  whole-no_end : (number : ℕ) → HasNoEnd bytes number → whole_from (length bytes) Nothing 0 bytes ≡ Err (record { line = number; kind = NoEnd })
  whole-no_end number none =
      whole_from-read bytes none.count none.so [] none.read
      ∙ whole_from-no_line (length bytes - none.count) none.so none.count [] none.no_end (nothing_left none.so)
      ∙ rw none.is refl

  whole-wrong_format : (number : ℕ) → HasWrongFormat bytes number → whole_of bytes ≡ Err (record { line = number; kind = BadLine })
  unfolding whole_of
  whole-wrong_format number wrong =
      let other : (wrong.format == format_of wrong.net.elements) ≡ false = grind (arith, nat_tests, wrong.other) in
      rw (whole_from-ended bytes wrong.count wrong.format wrong.net wrong.flow wrong.rest wrong.read, other, wrong.is) refl

  whole-ended : (count format : ℕ) (net : PulseNet) (flow : Flow) (rest : List ℕ) → IsRead bytes count (Ended format net flow) rest → format ≡ format_of net.elements → whole_of bytes ≡ Ok (record { format = format; net = net; flow = flow; lines = count; rest = rest })
  unfolding whole_of
  whole-ended count format net flow rest read same =
      let needed : (format == format_of net.elements) ≡ true = grind (arith, nat_tests, same) in
      rw (whole_from-ended bytes count format net flow rest read, needed) refl

  whole-first : (kind : TextKind) (number : ℕ) → IsFirst kind bytes number → kind ≢ AfterEnd → whole_of bytes ≡ Err (record { line = number; kind = kind })
  unfolding whole_of
  whole-first BadLine number (inl bad) other = rw (whole-bad_line number bad) refl
  whole-first BadLine number (inr wrong) other = whole-wrong_format number wrong
  whole-first NoEnd number none other = rw (whole-no_end number none) refl
  whole-first AfterEnd number on other = absurd (other refl)

  some_follow : (net : PulseNet) (flow : Flow) (count number : ℕ) (rest : List ℕ) → rest ≢ [] → number ≡ count + 1 → all_of (net, flow) count rest ≡ Err (record { line = number; kind = AfterEnd })
  some_follow net flow count number [] some is = absurd (some refl)
  some_follow net flow count number (byte ∷ rest) some is = rw is refl

  first-parsed : (kind : TextKind) (number : ℕ) → IsFirst kind bytes number → parsed bytes ≡ Err (record { line = number; kind = kind })
  first-parsed BadLine number first = rw (whole-first BadLine number first (λ is. cc)) refl
  first-parsed NoEnd number first = rw (whole-first NoEnd number first (λ is. cc)) refl
  first-parsed AfterEnd number on =
      rw (whole-ended on.count on.format on.net on.flow on.rest on.read on.same) (some_follow on.net on.flow on.count number on.rest on.some on.is)

  pub fault-parsed : (fault : TextReadFault) → IsFaultOf bytes fault → Tells (told fault) (parsed bytes)
  fault-parsed (Text fault) first = first-parsed fault.kind fault.line first
  fault-parsed NoMemory first = tt

  pub fault-parsed_prefix : (fault : TextReadFault) → IsFaultOfPrefix bytes fault → Tells (told fault) (parsed_prefix bytes)
  fault-parsed_prefix (Text fault) first = rw (whole-first fault.kind fault.line first.0 first.1) refl
  fault-parsed_prefix NoMemory first = tt

  pub prefix_fault-parsed : (fault : TextReadFault) → IsFaultOfPrefix bytes fault → Tells (told fault) (parsed bytes)
  prefix_fault-parsed (Text fault) first = first-parsed fault.kind fault.line first.0
  prefix_fault-parsed NoMemory first = tt

  -- Where the front is read, it is answered; and where nothing follows it, as the whole.
  pub read-parsed_prefix : (count format : ℕ) (net : PulseNet) (flow : Flow) (rest : List ℕ) → IsRead bytes count (Ended format net flow) rest → format ≡ format_of net.elements → parsed_prefix bytes ≡ Ok (record { net = net; flow = flow; bytes = length bytes - length rest; lines = count })
  read-parsed_prefix count format net flow rest read same = rw (whole-ended count format net flow rest read same) refl

  pub read-parsed : (count format : ℕ) (net : PulseNet) (flow : Flow) (rest : List ℕ) → IsRead bytes count (Ended format net flow) rest → format ≡ format_of net.elements → rest ≡ [] → parsed bytes ≡ Ok (net, flow)
  read-parsed count format net flow rest read same none = rw (whole-ended count format net flow rest read same, none) refl
