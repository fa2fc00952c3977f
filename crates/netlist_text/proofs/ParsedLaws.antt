-- What is answered of bytes was read there: a fault is their first, and a netlist and a flow are spelled by them. So the answer is
-- the relations, both ways. That names are names, and numbers have 32 bits, is kept by each line that fits.
use Rattle.std.proofs.Common.{◌≡◌, ◌≢◌, ◌≤◌, ◌<◌, ◌+◌, ◌-◌, ◌==◌, ◌⊎◌, ℕ, zero, suc, Bool, true, false, List, [], ◌∷◌, ◌++◌, length, All, Option, Some, None, Result, Ok, Err, if◌then◌else◌, refl, sym, ap, subst, ◌∙◌, arith, append-nil, length-append, inl, inr}
use Rattle.std.proofs.lemmas.Bool.Decides.{nat_tests}
use Rattle.std.proofs.lemmas.List.Elements.{All-nil, All-cons, All-append}
use Rattle.net_base.specs.Answers.{◌>>=◌}
use Rattle.net_base.specs.Name.{IsName}
use Rattle.flow_net.specs.declared.net.Flow.{Flow}
use Rattle.pulse_net.specs.declared.net.PulseNet.{PulseNet}
use Rattle.pulse_net.specs.Formed.{IsFormed}
use Rattle.netlist_text.specs.declared.fault.TextFault.{TextFault}
use Rattle.netlist_text.specs.declared.fault.TextKind.TheVariants.{BadLine, NoEnd, AfterEnd}
use Rattle.netlist_text.specs.declared.fault.TextReadFault.TheVariants.{Text}
use Rattle.netlist_text.specs.Spelling.{format_of, spelling_of}
use Rattle.netlist_text.specs.Lines.{Line, FormatLine, ModelLine, PhasesLine, LatencyLine, InputLine, ElementLine, OutputLine, FlowLine, EndLine, SoFar, Nothing, Format, Model, Phases, Body, Ended, line_text, with_line, after_lines, Fits, FitInOrder, IsOpen, IsSmall, IsSmallWire, IsSmallOutlet, numbers_of}
use Rattle.netlist_text.specs.Faults.{IsRead, IsFirst, IsFaultOf, IsFaultOfPrefix}
use Rattle.netlist_text.specs.Laws.{AreSmallUnits, IsTyped, SpellingsAreParsed, FirstFaultsAreParsed}
use Rattle.netlist_text.specs.Scanning.{line_at, unread}
use Rattle.netlist_text.specs.Parsing.{Whole, bad_line, no_line, next_line, up_to_end, whole_from, in_format, whole_of, all_of, prefix_of, parsed, parsed_prefix}
use Rattle.netlist_text.proofs.LinesRead.{read-start, read-line, unread-first, line_text-some}
use Rattle.netlist_text.proofs.ScannedLines.{line_at-sound}
use Rattle.netlist_text.proofs.SpelledLines.{spelled}
use Rattle.netlist_text.proofs.LinesOf.{lines_of, lines_of-go, spelling-lines}
use Rattle.netlist_text.proofs.ParsedText.{nothing_left, open-goes_on, read-parsed, fault-parsed, fault-parsed_prefix}

-- ---- what is answered was read

-- what an answer tells of bytes
abbrev Tells : List ℕ → Result Whole TextFault → Type 0
Tells bytes (Ok whole) = IsRead bytes whole.lines (Ended whole.format whole.net whole.flow) whole.rest
Tells bytes (Err fault) = IsFaultOfPrefix bytes (Text fault)

unread-no_line : (count : ℕ) (rest : List ℕ) → unread rest (count + 1) ≡ Text (no_line count rest)
unread-no_line count [] = refl
unread-no_line count (byte ∷ rest) = refl

-- where no line is scanned, the answer tells the fault
tells-no_line : (bytes : List ℕ) (count : ℕ) (so : SoFar) (rest : List ℕ) → IsRead bytes count so rest → IsOpen so → line_at so rest ≡ None → IsFaultOfPrefix bytes (Text (no_line count rest))
tells-no_line bytes count so rest read no_end none =
    subst (λ fault. IsFaultOfPrefix bytes fault) (unread-no_line count rest) (unread-first bytes count (count + 1) so rest read no_end none refl)

-- what was read so far is open, or the end
open_or_ended : (so : SoFar) → IsOpen so ⊎ ((format : ℕ) × (net : PulseNet) × (flow : Flow) × (so ≡ Ended format net flow))
open_or_ended Nothing = inl tt
open_or_ended (Format format) = inl tt
open_or_ended (Model format model) = inl tt
open_or_ended (Phases format model phases) = inl tt
open_or_ended (Body format net flow) = inl tt
open_or_ended (Ended format net flow) = inr (format, net, flow, refl)

-- a line that is scanned leaves less
line-shorter : (more : ℕ) (so : SoFar) (rest : List ℕ) (line : Line) (next : List ℕ) → length rest ≤ suc more → line_at so rest ≡ Some (line, next) → length next ≤ more
line-shorter more so rest line next few at =
    let scanned = line_at-sound so rest (line, next) at in
    omega (arith, few, line_text-some so line scanned.fits, length-append (line_text line) next, ap length scanned.whole)

module _ (bytes : List ℕ) where
  -- what the answers of so many lines tell, wherever they begin
  abbrev AllTell : ℕ → Type 0
  AllTell more = (so : SoFar) (count : ℕ) (rest : List ℕ) → IsRead bytes count so rest → length rest ≤ more → Tells bytes (whole_from more so count rest)

  tells-from : (more : ℕ) (so : SoFar) (count : ℕ) (rest : List ℕ) → IsRead bytes count so rest → length rest ≤ more → Tells bytes (whole_from more so count rest)
  unfolding whole_from
  tells-from zero so count rest read few = by (open_or_ended so)
    where
      nothing : (bytes : List ℕ) → length bytes ≤ 0 → bytes ≡ []
      nothing [] few = refl
      nothing (byte ∷ bytes) few = absurd (omega arith)

      by : IsOpen so ⊎ ((format : ℕ) × (net : PulseNet) × (flow : Flow) × (so ≡ Ended format net flow)) → Tells bytes (whole_from zero so count rest)
      by (inl no_end) =
          let none : line_at so rest ≡ None = ap (line_at so) (nothing rest few) ∙ nothing_left so in
          subst (λ (w : Result Whole TextFault). Tells bytes w) (sym (open-goes_on so count rest _ no_end)) (tells-no_line bytes count so rest read no_end none)
      by (inr (format, net, flow, is)) = rw is (subst (λ (s : SoFar). IsRead bytes count s rest) is read)
  tells-from (suc more) so count rest read few = by (tells-from more) (open_or_ended so)
    where
      go : AllTell more → (scanned : Option (Line × List ℕ)) → line_at so rest ≡ scanned → IsOpen so → Tells bytes (next_line count rest scanned >>= λ read. whole_from more (with_line so read.0) (count + 1) read.1)
      go again None at no_end = tells-no_line bytes count so rest read no_end at
      go again (Some (line, next)) at no_end = again (with_line so line) (count + 1) next (read-line bytes count so rest line next read at) (line-shorter more so rest line next few at)

      by : AllTell more → IsOpen so ⊎ ((format : ℕ) × (net : PulseNet) × (flow : Flow) × (so ≡ Ended format net flow)) → Tells bytes (whole_from (suc more) so count rest)
      by again (inl no_end) = subst (λ (w : Result Whole TextFault). Tells bytes w) (sym (open-goes_on so count rest _ no_end)) (go again (line_at so rest) refl no_end)
      by again (inr (format, net, flow, is)) = rw is (subst (λ (s : SoFar). IsRead bytes count s rest) is read)

  tells : Tells bytes (whole_from (length bytes) Nothing 0 bytes)
  tells = tells-from (length bytes) Nothing 0 bytes (read-start bytes) (omega arith)

  -- what the format adds to that
  record IsWhole (whole : Whole) : Type 0 where
    read : IsRead bytes whole.lines (Ended whole.format whole.net whole.flow) whole.rest
    same : whole.format ≡ format_of whole.net.elements

  abbrev TellsWhole : Result Whole TextFault → Type 0
  TellsWhole (Ok whole) = IsWhole whole
  TellsWhole (Err fault) = IsFaultOfPrefix bytes (Text fault)

  tells_whole : TellsWhole (whole_of bytes)
  unfolding whole_of
  tells_whole = by (whole_from (length bytes) Nothing 0 bytes) tells
    where
      by_format : (whole : Whole) → Tells bytes (Ok whole) → (same : Bool) → (whole.format == format_of whole.net.elements) ≡ same → TellsWhole (if same then Ok whole else Err (bad_line 0))
      by_format whole read true is = record { read = read; same = grind (arith, nat_tests, is) }
      by_format whole read false is =
          (inr (record { count = whole.lines; format = whole.format; net = whole.net; flow = whole.flow; rest = whole.rest; read = read; other = grind (arith, nat_tests, is); is = refl }), λ end. cc)

      by : (answer : Result Whole TextFault) → Tells bytes answer → TellsWhole (answer >>= in_format)
      by (Ok whole) read = by_format whole read (whole.format == format_of whole.net.elements) refl
      by (Err fault) first = first

  -- The first fault of the whole text, and of its front.
  fault-first : (fault : TextFault) → parsed bytes ≡ Err fault → IsFaultOf bytes (Text fault)
  fault-first fault is = by (whole_of bytes) tells_whole is
    where
      by_rest : (whole : Whole) → IsWhole whole → (rest : List ℕ) → whole.rest ≡ rest → all_of (whole.net, whole.flow) whole.lines rest ≡ Err fault → IsFaultOf bytes (Text fault)
      by_rest whole read [] at is = absurd cc
      by_rest whole read (byte ∷ rest) at is =
          let same : record { line = whole.lines + 1; kind = AfterEnd } ≡ fault = cc in
          subst (λ (f : TextFault). IsFaultOf bytes (Text f)) same
          (record { count = whole.lines; format = whole.format; net = whole.net; flow = whole.flow; rest = whole.rest; read = read.read; same = read.same; some = λ none. cc; is = refl })

      by : (answer : Result Whole TextFault) → TellsWhole answer → (answer >>= λ whole. all_of (whole.net, whole.flow) whole.lines whole.rest) ≡ Err fault → IsFaultOf bytes (Text fault)
      by (Ok whole) read is = by_rest whole read whole.rest refl is
      by (Err other) first is = let same : other ≡ fault = cc in subst (λ (f : TextFault). IsFaultOf bytes (Text f)) same first.0

  fault_of_prefix-first : (fault : TextFault) → parsed_prefix bytes ≡ Err fault → IsFaultOfPrefix bytes (Text fault)
  fault_of_prefix-first fault is = by (whole_of bytes) tells_whole is
    where
      by : (answer : Result Whole TextFault) → TellsWhole answer → (answer >>= λ whole. Ok (prefix_of bytes whole)) ≡ Err fault → IsFaultOfPrefix bytes (Text fault)
      by (Ok whole) read is = absurd cc
      by (Err other) first is = let same : other ≡ fault = cc in subst (λ (f : TextFault). IsFaultOfPrefix bytes (Text f)) same first

pub first_faults_are_parsed : FirstFaultsAreParsed
first_faults_are_parsed bytes fault = ((fault-first bytes fault, fault-parsed bytes (Text fault)), (fault_of_prefix-first bytes fault, fault-parsed_prefix bytes (Text fault)))

-- ---- names and numbers

abbrev IsTypedSoFar : SoFar → Type 0
IsTypedSoFar Nothing = Unit {0}
IsTypedSoFar (Format format) = Unit {0}
IsTypedSoFar (Model format model) = IsName model
IsTypedSoFar (Phases format model phases) = IsName model
IsTypedSoFar (Body format net flow) = IsTyped net flow
IsTypedSoFar (Ended format net flow) = IsTyped net flow

All-push : {A : Type 0} (P : A → Type 0) (xs : List A) (x : A) → All P xs → P x → All P (xs ++ x ∷ [])
All-push P xs x all holds = All-append P xs (x ∷ []) all (All-cons P x [] holds (All-nil P))

typed-line : (so : SoFar) (one : Line) → IsTypedSoFar so → Fits so one → IsTypedSoFar (with_line so one)
typed-line Nothing (FormatLine format) typed fits = tt
typed-line (Format format) (ModelLine model) typed fits = fits
typed-line (Model format model) (PhasesLine phases) typed fits = typed
typed-line (Phases format model phases) (LatencyLine latency) typed fits =
    record {
      model = typed;
      inputs = All-nil IsName;
      outputs = All-nil IsName;
      latency = fits.1;
      wires = All-nil IsSmallWire;
      elements = All-nil (λ element. All IsSmall (numbers_of element));
      outlets = All-nil IsSmallOutlet;
      pins = All-nil AreSmallUnits;
    }
typed-line (Body format net flow) (InputLine name wire) typed fits =
    record {
      model = typed.model;
      inputs = All-push IsName net.names.inputs name typed.inputs fits.named;
      outputs = typed.outputs;
      latency = typed.latency;
      wires = All-push IsSmallWire net.inputs wire typed.wires fits.small;
      elements = typed.elements;
      outlets = typed.outlets;
      pins = typed.pins;
    }
typed-line (Body format net flow) (ElementLine element) typed fits =
    record {
      model = typed.model;
      inputs = typed.inputs;
      outputs = typed.outputs;
      latency = typed.latency;
      wires = typed.wires;
      elements = All-push (λ element. All IsSmall (numbers_of element)) net.elements element typed.elements fits.small;
      outlets = typed.outlets;
      pins = typed.pins;
    }
typed-line (Body format net flow) (OutputLine name outlet) typed fits =
    record {
      model = typed.model;
      inputs = typed.inputs;
      outputs = All-push IsName net.names.outputs name typed.outputs fits.named;
      latency = typed.latency;
      wires = typed.wires;
      elements = typed.elements;
      outlets = All-push IsSmallOutlet net.outputs outlet typed.outlets fits.small;
      pins = typed.pins;
    }
typed-line (Body format net flow) (FlowLine units) typed fits =
    record {
      model = typed.model;
      inputs = typed.inputs;
      outputs = typed.outputs;
      latency = typed.latency;
      wires = typed.wires;
      elements = typed.elements;
      outlets = typed.outlets;
      pins = All-push AreSmallUnits flow.pins units typed.pins fits;
    }
typed-line (Body format net flow) EndLine typed fits = typed
typed-line so one typed fits = absurd fits

typed-lines : (so : SoFar) (lines : List Line) → IsTypedSoFar so → FitInOrder so lines → IsTypedSoFar (after_lines so lines)
typed-lines so [] typed fit = typed
typed-lines so (one ∷ lines) typed fit = typed-lines (with_line so one) lines (typed-line so one typed fit.0) fit.1

-- ---- spellings

abbrev IsSpelling : List ℕ → PulseNet → Flow → Type 0
IsSpelling bytes net flow = (bytes ≡ spelling_of net flow) × IsFormed net × IsTyped net flow

parsed-spelled : (bytes : List ℕ) (net : PulseNet) (flow : Flow) → parsed bytes ≡ Ok (net, flow) → IsSpelling bytes net flow
parsed-spelled bytes net flow is = by (whole_of bytes) (tells_whole bytes) is
  where
    by_rest : (whole : Whole) → IsWhole bytes whole → (rest : List ℕ) → whole.rest ≡ rest → all_of (whole.net, whole.flow) whole.lines rest ≡ Ok (net, flow) → IsSpelling bytes net flow
    by_rest whole read [] at is =
        let pair : (whole.net, whole.flow) ≡ (net, flow) = cc in
        let text = spelled bytes whole.lines whole.format whole.net whole.flow whole.rest read.read read.same in
        let typed : IsTyped whole.net whole.flow = subst IsTypedSoFar read.read.said (typed-lines Nothing read.read.lines tt read.read.fit) in
        let is_spelling : IsSpelling bytes whole.net whole.flow =
        (text.whole ∙ ap (λ rest. spelling_of whole.net whole.flow ++ rest) at ∙ append-nil (spelling_of whole.net whole.flow), text.formed, typed)
        in
        subst (λ (f : Flow). IsSpelling bytes net f) (ap (λ (p : PulseNet × Flow). p.1) pair) (subst (λ (p : PulseNet). IsSpelling bytes p whole.flow) (ap (λ (p : PulseNet × Flow). p.0) pair) is_spelling)
    by_rest whole read (byte ∷ rest) at is = absurd cc

    by : (answer : Result Whole TextFault) → TellsWhole bytes answer → (answer >>= λ whole. all_of (whole.net, whole.flow) whole.lines whole.rest) ≡ Ok (net, flow) → IsSpelling bytes net flow
    by (Ok whole) read is = by_rest whole read whole.rest refl is
    by (Err other) first is = absurd cc

spelled-parsed : (bytes : List ℕ) (net : PulseNet) (flow : Flow) → IsSpelling bytes net flow → parsed bytes ≡ Ok (net, flow)
spelled-parsed bytes net flow is =
    let go = lines_of-go net flow is.1 is.2 in
    let read : IsRead bytes (length (lines_of net flow)) (Ended (format_of net.elements) net flow) [] =
    record {
      lines = lines_of net flow;
      whole = is.0 ∙ spelling-lines net flow is.1 is.2 ∙ sym (append-nil _);
      fit = go.fit;
      said = go.said;
      counted = refl;
    }
    in
    read-parsed bytes (length (lines_of net flow)) (format_of net.elements) net flow [] read refl refl

pub spellings_are_parsed : SpellingsAreParsed
spellings_are_parsed bytes net flow = (parsed-spelled bytes net flow, spelled-parsed bytes net flow)
