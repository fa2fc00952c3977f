use Rattle.std.proofs.Common.{◌≡◌, ◌+◌, ◌++◌, [], Err, refl, sym, ap, ◌∙◌, arith, append-nil, length}
use Rattle.std.proofs.lemmas.Result.{err_from_is_err_and}
use Rattle.netlist_text.specs.declared.fault.TextKind.TheVariants.{AfterEnd}
use Rattle.netlist_text.specs.declared.fault.TextReadFault.TheVariants.{Text}
use Rattle.netlist_text.specs.Faults.{GoesOn}
use Rattle.netlist_text.specs.Lines.{Ended}
use Rattle.netlist_text.specs.Spelling.{spelling_of}
use Rattle.netlist_text.proofs.LinesRead.{read-few}
use Rattle.netlist_text.proofs.SpelledLines.{spelled}
use Rattle.netlist_text.proofs.ParsedText.{fault-parsed, prefix_fault-parsed, read-parsed}
use Rattle.netlist_text.proofs.reading.read.Goals as goal

pub overflow_add-result : goal.overflow_add-result
overflow_add-result c =
    let whole = c.in_ok-whole.whole in
    let few = read-few c.new.result whole.lines (Ended whole.reader.format whole.reader.net whole.reader.flow) whole.rest c.in_ok-whole.ensures.read in
    let short = c.requires in
    omega (arith, few, short, ap length c.new.ensures)

pub returns-clause-spelled : goal.returns-clause-spelled
returns-clause-spelled c =
    let whole = c.in_ok-whole.whole in
    let read = c.in_ok-whole.ensures.read in
    let is = spelled c.new.result whole.lines whole.reader.format whole.reader.net whole.reader.flow whole.rest read c.in_ok-whole.ensures.format in
    let none : whole.rest ≡ [] = c.if-not-is_empty.ensures.0 refl in
    sym c.new.ensures ∙ is.whole ∙ ap (λ rest. spelling_of whole.reader.net whole.reader.flow ++ rest) none ∙ append-nil (spelling_of whole.reader.net whole.reader.flow)

pub returns-clause-formed : goal.returns-clause-formed
returns-clause-formed c =
    let whole = c.in_ok-whole.whole in
    let read = c.in_ok-whole.ensures.read in
    let is = spelled c.new.result whole.lines whole.reader.format whole.reader.net whole.reader.flow whole.rest read c.in_ok-whole.ensures.format in
    is.formed

pub returns-clause-few : goal.returns-clause-few
returns-clause-few c =
    let whole = c.in_ok-whole.whole in
    let read = c.in_ok-whole.ensures.read in
    let is = spelled c.new.result whole.lines whole.reader.format whole.reader.net whole.reader.flow whole.rest read c.in_ok-whole.ensures.format in
    let lines = is.lines in
    let few = read-few c.new.result whole.lines (Ended whole.reader.format whole.reader.net whole.reader.flow) whole.rest read in
    omega (arith, lines, few, ap length c.new.ensures)

pub returns-in_err-whole-clause-answer : goal.returns-in_err-whole-clause-answer
returns-in_err-whole-clause-answer c =
    let exit = err_from_is_err_and c.from_residual.result c.from_residual.ensures.1 in
    rw (exit.1 ∙ ap (λ fault. Err fault) exit.2, sym c.new.ensures) (prefix_fault-parsed c.new.result c.in_err-whole.field-0.0 c.in_err-whole.ensures.fault)

pub returns-then-not-is_empty-clause-answer : goal.returns-then-not-is_empty-clause-answer
returns-then-not-is_empty-clause-answer c =
    let whole = c.in_ok-whole.whole in
    let on : GoesOn c.new.result (whole.lines + 1) =
    record {
      count = whole.lines;
      format = whole.reader.format;
      net = whole.reader.net;
      flow = whole.reader.flow;
      rest = whole.rest;
      read = c.in_ok-whole.ensures.read;
      same = c.in_ok-whole.ensures.format;
      some = λ none. let empty = c.if-not-is_empty.ensures.1 none in cc;
      is = refl;
    }
    in
    rw (sym c.new.ensures) (fault-parsed c.new.result (Text (record { line = whole.lines + 1; kind = AfterEnd })) on)

pub returns-clause-answer : goal.returns-clause-answer
returns-clause-answer c =
    let whole = c.in_ok-whole.whole in
    let none : whole.rest ≡ [] = c.if-not-is_empty.ensures.0 refl in
    rw (sym c.new.ensures) (read-parsed c.new.result whole.lines whole.reader.format whole.reader.net whole.reader.flow whole.rest c.in_ok-whole.ensures.read c.in_ok-whole.ensures.format none)
