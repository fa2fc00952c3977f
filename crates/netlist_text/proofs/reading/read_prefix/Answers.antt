use Rattle.std.proofs.Common.{◌≡◌, ◌-◌, ◌++◌, List, ℕ, Err, length, drop, sym, ap, ◌∙◌, arith, length-append}
use Rattle.std.proofs.lemmas.List.{drop_at}
use Rattle.std.proofs.lemmas.Result.{err_from_is_err_and}
use Rattle.netlist_text.specs.Spelling.{spelling_of}
use Rattle.netlist_text.proofs.LinesRead.{read-few}
use Rattle.netlist_text.proofs.SpelledLines.{spelled}
use Rattle.netlist_text.proofs.ParsedText.{fault-parsed_prefix, read-parsed_prefix}
use Rattle.netlist_text.specs.Lines.{Ended}
use Rattle.netlist_text.proofs.reading.read_prefix.Goals as goal

pub returns-clause-bytes : goal.returns-clause-bytes
returns-clause-bytes c =
    let whole = c.in_ok-whole.whole in
    let read = c.in_ok-whole.ensures.read in
    let is = spelled c.new.result whole.lines whole.reader.format whole.reader.net whole.reader.flow whole.rest read c.in_ok-whole.ensures.format in
    let text = sym c.new.ensures ∙ is.whole in
    let len = c.len.ensures in
    omega (arith, len, ap length text, length-append (spelling_of whole.reader.net whole.reader.flow) whole.rest)

pub returns-clause-spelled : goal.returns-clause-spelled
returns-clause-spelled c =
    let whole = c.in_ok-whole.whole in
    let read = c.in_ok-whole.ensures.read in
    let is = spelled c.new.result whole.lines whole.reader.format whole.reader.net whole.reader.flow whole.rest read c.in_ok-whole.ensures.format in
    let text = sym c.new.ensures ∙ is.whole in
    let len = c.len.ensures in
    let spelling : List ℕ = spelling_of whole.reader.net whole.reader.flow in
    let taken : length spelling ≡ length c.args.bytes.now - c.len.result = omega (arith, len, ap length text, length-append spelling whole.rest) in
    let behind : drop (length c.args.bytes.now - c.len.result) c.args.bytes.now ≡ whole.rest =
    ap (drop (length c.args.bytes.now - c.len.result)) text ∙ drop_at spelling whole.rest (length c.args.bytes.now - c.len.result) taken in
    text ∙ ap (λ rest. spelling ++ rest) (sym behind)

pub returns-clause-formed : goal.returns-clause-formed
returns-clause-formed c =
    let whole = c.in_ok-whole.whole in
    let read = c.in_ok-whole.ensures.read in
    let is = spelled c.new.result whole.lines whole.reader.format whole.reader.net whole.reader.flow whole.rest read c.in_ok-whole.ensures.format in
    is.formed

pub returns-clause-lines : goal.returns-clause-lines
returns-clause-lines c =
    let whole = c.in_ok-whole.whole in
    let read = c.in_ok-whole.ensures.read in
    let is = spelled c.new.result whole.lines whole.reader.format whole.reader.net whole.reader.flow whole.rest read c.in_ok-whole.ensures.format in
    is.lines

pub returns-clause-few : goal.returns-clause-few
returns-clause-few c =
    let whole = c.in_ok-whole.whole in
    let few = read-few c.new.result whole.lines (Ended whole.reader.format whole.reader.net whole.reader.flow) whole.rest c.in_ok-whole.ensures.read in
    let len = c.len.ensures in
    omega (arith, len, few, ap length c.new.ensures)

pub returns-in_err-whole-clause-answer : goal.returns-in_err-whole-clause-answer
returns-in_err-whole-clause-answer c =
    let exit = err_from_is_err_and c.from_residual.result c.from_residual.ensures.1 in
    rw (exit.1 ∙ ap (λ fault. Err fault) exit.2, sym c.new.ensures) (fault-parsed_prefix c.new.result c.in_err-whole.field-0.0 c.in_err-whole.ensures.fault)

pub returns-clause-answer : goal.returns-clause-answer
returns-clause-answer c =
    let whole = c.in_ok-whole.whole in
    rw (sym c.new.ensures, c.len.ensures) (read-parsed_prefix c.new.result whole.lines whole.reader.format whole.reader.net whole.reader.flow whole.rest c.in_ok-whole.ensures.read c.in_ok-whole.ensures.format)
