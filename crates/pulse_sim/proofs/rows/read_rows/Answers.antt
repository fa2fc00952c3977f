use Rattle.std.proofs.Common.{◌≡◌, ◌<◌, length, sym, ◌∙◌, arith}
use Rattle.std.specs.Prelude.{Some, None}
use Rattle.std.proofs.lemmas.Bool.Decides.{nat_tests}
use Rattle.pulse_sim.specs.Rows.{wrong_in}
use Rattle.pulse_sim.proofs.LinesOfRows.{front_line, rows_of_lines-fault, rows_of_lines-row, few_before}
use Rattle.pulse_sim.proofs.rows.read_rows.Goals as goal

pub returns-in-Some : goal.returns-in-Some
returns-in-Some c =
    let some : 0 < length c.loop-rest.rest.now = grind (arith, nat_tests) in
    let wrong : Some c.in-Some.kind ≡ wrong_in (length c.loop-rest.rows) c.args.inputs (front_line c.line_len-len.result c.loop-rest.rest.now) = rw (sym c.len-place.ensures) c.in-Some.ensures in
    record { rows = rw (c.fault_at.ensures, c.len-place.ensures) (sym c.loop-rest.invariant.whole ∙ rows_of_lines-fault c.args.inputs c.args.line c.loop-rest.rows c.loop-rest.rest.now c.line_len-len.result c.line_len-len.ensures.count some c.in-Some.kind wrong) }

pub loop-rest-preserved : goal.loop-rest-preserved
loop-rest-preserved c =
    let some : 0 < length c.loop-rest.rest.now = grind (arith, nat_tests) in
    let right : None ≡ wrong_in (length c.loop-rest.rows) c.args.inputs (front_line c.line_len-len.result c.loop-rest.rest.now) = rw (sym c.len-place.ensures) (sym c.in_default.is ∙ c.wrong_in.ensures) in
    record {
      whole = rw (c.behind-rest.ensures, c.in_ok-push.ensures.ok, c.in_ok-row.ensures)
          (rows_of_lines-row c.args.inputs c.args.line c.loop-rest.rows c.loop-rest.rest.now c.line_len-len.result c.line_len-len.ensures.count some right
          ∙ c.loop-rest.invariant.whole);
      few = rw c.in_ok-push.ensures.ok (few_before c.args.inputs c.loop-rest.rows (front_line c.line_len-len.result c.loop-rest.rest.now) c.in_ok-row.row right);
    }
