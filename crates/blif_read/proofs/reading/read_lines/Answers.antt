use Rattle.std.proofs.Common.{Err, All, List, map, sym, ap, subst, ◌∙◌, refl}
use Rattle.std.specs.List.{cons_option}
use Rattle.std.proofs.lemmas.List.Elements.{All-head, All-tail}
use Rattle.std.proofs.lemmas.Result.{err_from_is_err_and}
use Rattle.blif_lex.specs.declared.line.LogicalLine.{LogicalLine}
use Rattle.blif_read.specs.Clean.{IsCleanUnlessBad}
use Rattle.blif_read.specs.Reading.{reads, reads_lines}
use Rattle.blif_read.specs.Readers.{IsSound, state_of}
use Rattle.blif_read.specs.State.{State}
use Rattle.blif_read.specs.Words.{line_at}
use Rattle.blif_read.proofs.CleanTokens.{lines_are_clean}
use Rattle.blif_read.proofs.LinesRead.{reads_lines-end, reads_lines-step, reads_lines-stop, Gives-fault}
use Rattle.blif_read.proofs.SoundStates.{start-is_sound, reads-keeps}
use Rattle.blif_read.proofs.reading.read_lines.Goals as goal

pub loop-line-init : goal.loop-line-init
loop-line-init c =
    let text = c.args.text.now in
    record {
      whole = rw (c.new-lines.ensures.left, c.requires.start) refl;
      text = c.new-lines.ensures.text;
      clean = subst (λ (lines : List LogicalLine). All (IsCleanUnlessBad text) lines) (sym c.new-lines.ensures.left) (lines_are_clean text);
      sound = subst (λ (state : State). IsSound state) (sym c.requires.start) start-is_sound;
    }

pub read_line-requires-clause-clean : goal.read_line-requires-clause-clean
read_line-requires-clause-clean c =
    let text = c.args.text.now in
    let left = c.in_ok-line.ensures.line ∙ ap (λ next. cons_option next c.next.new.self.left) c.in-Some.is in
    All-head (IsCleanUnlessBad text) c.in-Some.line c.next.new.self.left
    (subst (λ (lines : List LogicalLine). All (IsCleanUnlessBad text) lines) left c.loop-line.invariant.clean)

pub returns-in_err-read_line-clause-lines : goal.returns-in_err-read_line-clause-lines
returns-in_err-read_line-clause-lines c =
    let text = c.args.text.now in
    let state = state_of c.loop-line.reader in
    let line = line_at text c.in-Some.line in
    let left = c.in_ok-line.ensures.line ∙ ap (λ next. cons_option next c.next.new.self.left) c.in-Some.is in
    let exit = err_from_is_err_and c.from_residual-in_err-read_line.result c.from_residual-in_err-read_line.ensures.1 in
    Gives-fault _ _ c.in_err-read_line.field-0.0 (reads line state) _ (exit.1 ∙ ap (λ fault. Err fault) exit.2) c.in_err-read_line.ensures
    (λ fault is. sym c.loop-line.invariant.whole
    ∙ ap (λ (lines : List LogicalLine). reads_lines (map (line_at text) lines) state) left
    ∙ reads_lines-stop line (map (line_at text) c.next.new.self.left) state fault is)

pub loop-line-preserved : goal.loop-line-preserved
loop-line-preserved c =
    let text = c.args.text.now in
    let state = state_of c.loop-line.reader in
    let next = state_of c.read_line.new.reader in
    let line = line_at text c.in-Some.line in
    let left = c.in_ok-line.ensures.line ∙ ap (λ next. cons_option next c.next.new.self.left) c.in-Some.is in
    record {
      whole =
          sym (ap (λ (lines : List LogicalLine). reads_lines (map (line_at text) lines) state) left
          ∙ reads_lines-step line (map (line_at text) c.next.new.self.left) state next c.in_ok-read_line.ensures)
          ∙ c.loop-line.invariant.whole;
      text = c.in_ok-line.ensures.text ∙ c.loop-line.invariant.text;
      clean =
          All-tail (IsCleanUnlessBad text) c.in-Some.line c.next.new.self.left
          (subst (λ (lines : List LogicalLine). All (IsCleanUnlessBad text) lines) left c.loop-line.invariant.clean);
      sound = reads-keeps line state next c.in_ok-read_line.ensures c.loop-line.invariant.sound;
    }

pub returns-clause-lines : goal.returns-clause-lines
returns-clause-lines c =
    let text = c.args.text.now in
    let state = state_of c.loop-line.reader in
    sym c.loop-line.invariant.whole
    ∙ ap (λ (lines : List LogicalLine). reads_lines (map (line_at text) lines) state) (c.in_ok-line.ensures.end.0 c.in_default.is)
    ∙ reads_lines-end state
