-- The four lines of the header and those of the body, as they are read one after the other.
use Rattle.std.proofs.Common.{◌≡◌, ◌+◌, ◌<◌, ℕ, List, length, Some, None, codes, refl}
use Rattle.flow_net.specs.TheConstants.{MAX_PHASES}
use Rattle.flow_net.specs.declared.net.Flow.{Flow}
use Rattle.pulse_net.specs.declared.net.PulseNet.{PulseNet}
use Rattle.netlist_text.specs.declared.word.Word.{Word}
use Rattle.netlist_text.specs.declared.word.Word.TheVariants as word
use Rattle.netlist_text.specs.Lines.{FormatLine, ModelLine, PhasesLine, LatencyLine, SoFar, Nothing, Format, Model, Phases, Body, Ended, no_net, no_flow}
use Rattle.netlist_text.specs.Faults.{IsRead, IsFaultOfPrefix}
use Rattle.netlist_text.specs.Scanning.{end_at, number_line_at, model_at, words, word_from, body_line_at, line_at, stepped, seen, unread}
use Rattle.netlist_text.proofs.LinesRead.{read-start, read-line, read-step, unread-first, unstepped, step-shorter}

module _ (bytes : List ℕ) where
  pub format-read : (format : ℕ) (next : List ℕ) → number_line_at (codes "rsfq") 1 2 bytes ≡ Some (format, next) → IsRead bytes 1 (Format format) next
  unfolding line_at
  format-read format next is = read-line bytes 0 Nothing bytes (FormatLine format) next (read-start bytes) (rw is refl)

  pub no-format : number_line_at (codes "rsfq") 1 2 bytes ≡ None → IsFaultOfPrefix bytes (unread bytes 1)
  unfolding line_at
  no-format none = unread-first bytes 0 1 Nothing bytes (read-start bytes) tt (rw none refl) refl

  pub model-read : (format : ℕ) (rest model next : List ℕ) → IsRead bytes 1 (Format format) rest → model_at rest ≡ Some (model, next) → IsRead bytes 2 (Model format model) next
  unfolding line_at
  model-read format rest model next read is = read-line bytes 1 (Format format) rest (ModelLine model) next read (rw is refl)

  pub no-model : (format : ℕ) (rest : List ℕ) → IsRead bytes 1 (Format format) rest → model_at rest ≡ None → IsFaultOfPrefix bytes (unread rest 2)
  unfolding line_at
  no-model format rest read none = unread-first bytes 1 2 (Format format) rest read tt (rw none refl) refl

  pub phases-read : (format : ℕ) (model rest : List ℕ) (phases : ℕ) (next : List ℕ) → IsRead bytes 2 (Model format model) rest → number_line_at (codes "phases") 1 MAX_PHASES rest ≡ Some (phases, next) → IsRead bytes 3 (Phases format model phases) next
  unfolding line_at
  phases-read format model rest phases next read is = read-line bytes 2 (Model format model) rest (PhasesLine phases) next read (rw is refl)

  pub no-phases : (format : ℕ) (model rest : List ℕ) → IsRead bytes 2 (Model format model) rest → number_line_at (codes "phases") 1 MAX_PHASES rest ≡ None → IsFaultOfPrefix bytes (unread rest 3)
  unfolding line_at
  no-phases format model rest read none = unread-first bytes 2 3 (Model format model) rest read tt (rw none refl) refl

  pub latency-read : (format : ℕ) (model : List ℕ) (phases : ℕ) (rest : List ℕ) (latency : ℕ) (next : List ℕ) → IsRead bytes 3 (Phases format model phases) rest → number_line_at (codes "latency") 1 4294967295 rest ≡ Some (latency, next)
      → IsRead bytes 4 (Body format (no_net model phases latency) no_flow) next
  unfolding line_at
  latency-read format model phases rest latency next read is = read-line bytes 3 (Phases format model phases) rest (LatencyLine latency) next read (rw is refl)

  pub no-latency : (format : ℕ) (model : List ℕ) (phases : ℕ) (rest : List ℕ) → IsRead bytes 3 (Phases format model phases) rest → number_line_at (codes "latency") 1 4294967295 rest ≡ None → IsFaultOfPrefix bytes (unread rest 4)
  unfolding line_at
  no-latency format model phases rest read none = unread-first bytes 3 4 (Phases format model phases) rest read tt (rw none refl) refl

  module _ (count format : ℕ) (net : PulseNet) (flow : Flow) (rest : List ℕ) (read : IsRead bytes count (Body format net flow) rest) where
    pub no-word : (number : ℕ) → word_from words rest ≡ None → number ≡ count + 1 → IsFaultOfPrefix bytes (unread rest number)
    unfolding line_at
    no-word number none is = unread-first bytes count number (Body format net flow) rest read tt (rw none refl) is

    module _ (w : Word) (behind : List ℕ) (found : word_from words rest ≡ Some (w, behind)) where
      line : line_at (Body format net flow) rest ≡ body_line_at w format net flow behind
      unfolding line_at
      line = rw found refl

      pub line-read : (after : SoFar) (next : List ℕ) → seen after (Some next) ≡ stepped (Body format net flow) (body_line_at w format net flow behind) → IsRead bytes (count + 1) after next
      line-read after next is = read-step bytes count (Body format net flow) after rest next read (rw line is)

      pub line-shorter : (after : SoFar) (next : List ℕ) → seen after (Some next) ≡ stepped (Body format net flow) (body_line_at w format net flow behind) → length next < length rest
      line-shorter after next is = step-shorter (Body format net flow) after rest next (rw line is)

      pub no-line : (after : SoFar) (number : ℕ) → seen after None ≡ stepped (Body format net flow) (body_line_at w format net flow behind) → number ≡ count + 1 → IsFaultOfPrefix bytes (unread rest number)
      no-line after number none is = unread-first bytes count number (Body format net flow) rest read tt (unstepped (Body format net flow) after rest (rw line none)) is

    pub end-read : (behind next : List ℕ) → word_from words rest ≡ Some (word.End, behind) → end_at behind ≡ Some next → IsRead bytes (count + 1) (Ended format net flow) next
    unfolding body_line_at
    end-read behind next found is = line-read word.End behind found (Ended format net flow) next (rw is refl)

    pub no-end : (behind : List ℕ) (number : ℕ) → word_from words rest ≡ Some (word.End, behind) → end_at behind ≡ None → number ≡ count + 1 → IsFaultOfPrefix bytes (unread rest number)
    unfolding body_line_at
    no-end behind number found none is = no-line word.End behind found (Ended format net flow) number (rw none refl) is
