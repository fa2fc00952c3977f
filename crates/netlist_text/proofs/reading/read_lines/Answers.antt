use Rattle.std.proofs.Common.{◌≡◌, ◌+◌, ◌<◌, List, ℕ, length, Option, Some, refl, sym, ap, subst, ◌∙◌, arith}
use Rattle.netlist_text.specs.declared.fault.TextReadFault.{TextReadFault}
use Rattle.netlist_text.specs.declared.word.Word.{Word}
use Rattle.netlist_text.specs.declared.word.Word.TheVariants as word
use Rattle.netlist_text.specs.Faults.{IsFaultOfPrefix}
use Rattle.netlist_text.specs.Read.{said}
use Rattle.netlist_text.specs.Scanning.{words, word_from, seen}
use Rattle.netlist_text.proofs.LinesRead.{read-few}
use Rattle.netlist_text.proofs.HeaderRead.{no-word, no-end, end-read, no-line, line-read, line-shorter}
use Rattle.netlist_text.proofs.reading.read_lines.Goals as goal

pub overflow_add-lines : goal.overflow_add-lines
overflow_add-lines c =
    let few = read-few c.args.text.now c.loop-word.lines (said c.loop-word.reader) c.loop-word.rest c.loop-word.invariant in
    let short = c.requires in
    omega (arith, few, short)

pub overflow_add-lines-in_default-end : goal.overflow_add-lines-in_default-end
overflow_add-lines-in_default-end c =
    let few = read-few c.args.text.now c.loop-word.lines (said c.loop-word.reader) c.loop-word.rest c.loop-word.invariant in
    let short = c.requires in
    omega (arith, few, short)

pub overflow_add-result : goal.overflow_add-result
overflow_add-result c =
    let few = read-few c.args.text.now c.loop-word.lines (said c.loop-word.reader) c.loop-word.rest c.loop-word.invariant in
    let short = c.requires in
    omega (arith, few, short)

pub overflow_add-lines-in_default-next : goal.overflow_add-lines-in_default-next
overflow_add-lines-in_default-next c =
    let few = read-few c.args.text.now c.loop-word.lines (said c.loop-word.reader) c.loop-word.rest c.loop-word.invariant in
    let short = c.requires in
    omega (arith, few, short)

pub overflow_add-lines-in-loop-word : goal.overflow_add-lines-in-loop-word
overflow_add-lines-in-loop-word c =
    let few = read-few c.args.text.now c.loop-word.lines (said c.loop-word.reader) c.loop-word.rest c.loop-word.invariant in
    let short = c.requires in
    omega (arith, few, short)

pub returns-in_default-clause-fault : goal.returns-in_default-clause-fault
returns-in_default-clause-fault c =
    let text = c.args.text.now in
    subst (λ (fault : TextReadFault). IsFaultOfPrefix text fault) (sym c.unread.ensures)
    (no-word text c.loop-word.lines c.loop-word.reader.format c.loop-word.reader.net c.loop-word.reader.flow c.loop-word.rest c.loop-word.invariant (c.loop-word.lines + 1) (sym c.in_default.ensures) refl)

pub returns-in_default-end-clause-fault : goal.returns-in_default-end-clause-fault
returns-in_default-end-clause-fault c =
    let text = c.args.text.now in
    let found : word_from words c.loop-word.rest ≡ Some (word.End, c.in-Some.behind) = sym c.in-Some.ensures ∙ ap (λ (w : Word). Some (w, c.in-Some.behind)) c.in-End.is in
    subst (λ (fault : TextReadFault). IsFaultOfPrefix text fault) (sym c.unread-in_default-end.ensures)
    (no-end text c.loop-word.lines c.loop-word.reader.format c.loop-word.reader.net c.loop-word.reader.flow c.loop-word.rest c.loop-word.invariant c.in-Some.behind (c.loop-word.lines + 1) found (sym c.in_default-end.ensures) refl)

pub returns-in-End-clause-read : goal.returns-in-End-clause-read
returns-in-End-clause-read c =
    let text = c.args.text.now in
    let found : word_from words c.loop-word.rest ≡ Some (word.End, c.in-Some.behind) = sym c.in-Some.ensures ∙ ap (λ (w : Word). Some (w, c.in-Some.behind)) c.in-End.is in
    end-read text c.loop-word.lines c.loop-word.reader.format c.loop-word.reader.net c.loop-word.reader.flow c.loop-word.rest c.loop-word.invariant c.in-Some.behind c.in-Some-end.rest found (sym c.in-Some-end.ensures)

pub returns-in_default-next : goal.returns-in_default-next
returns-in_default-next c =
    let text = c.args.text.now in
    record {
      read = tt;
      fault =
          subst (λ (fault : TextReadFault). IsFaultOfPrefix text fault) (sym c.unread-in_default-next.ensures)
          (no-line text c.loop-word.lines c.loop-word.reader.format c.loop-word.reader.net c.loop-word.reader.flow c.loop-word.rest c.loop-word.invariant c.in-Some.word c.in-Some.behind (sym c.in-Some.ensures) (said c.read_line.new.self) (c.loop-word.lines + 1)
          (ap (λ (read : Option (List ℕ)). seen (said c.read_line.new.self) read) (sym c.in_default-next.is) ∙ c.in_ok-next-in_default-word.ensures) refl);
    }

pub loop-word-preserved : goal.loop-word-preserved
loop-word-preserved c =
    line-read c.args.text.now c.loop-word.lines c.loop-word.reader.format c.loop-word.reader.net c.loop-word.reader.flow c.loop-word.rest c.loop-word.invariant c.in-Some.word c.in-Some.behind (sym c.in-Some.ensures) (said c.read_line.new.self) c.in-Some-next.next
    (ap (λ (read : Option (List ℕ)). seen (said c.read_line.new.self) read) (sym c.in-Some-next.is) ∙ c.in_ok-next-in_default-word.ensures)

pub loop-word-smaller : goal.loop-word-smaller
loop-word-smaller c =
    let next : length c.in-Some-next.next < length c.loop-word.rest =
    line-shorter c.args.text.now c.loop-word.lines c.loop-word.reader.format c.loop-word.reader.net c.loop-word.reader.flow c.loop-word.rest c.loop-word.invariant c.in-Some.word c.in-Some.behind (sym c.in-Some.ensures) (said c.read_line.new.self) c.in-Some-next.next
    (ap (λ (read : Option (List ℕ)). seen (said c.read_line.new.self) read) (sym c.in-Some-next.is) ∙ c.in_ok-next-in_default-word.ensures)
    in
    omega (arith, next)
