use Rattle.std.proofs.Common.{◌++◌, arith, sym, ap, ◌∙◌, append_assoc, append-nil}
use Rattle.netlist_text.proofs.SpellingLines.{output_lines-step, output_lines-end}
use Rattle.netlist_text.proofs.writing.push_outputs.Goals as goal

pub loop-i-preserved : goal.loop-i-preserved
loop-i-preserved c =
    let step = output_lines-step c.args.names.now c.args.outlets.now c.loop-i.i c.get-name.result.now c.get-outlet.result.now c.get-name.ensures c.get-outlet.ensures in
    let before = c.loop-i.invariant in
    rw (c.in_ok-push_output.ensures, append_assoc, ← step) before

pub returns : goal.returns
returns c =
    let end = output_lines-end c.args.names.now c.args.outlets.now c.loop-i.i (omega arith) in
    let before = c.loop-i.invariant in
    sym (append-nil c.loop-i.out.items) ∙ ap (λ lines. c.loop-i.out.items ++ lines) (sym end) ∙ before
