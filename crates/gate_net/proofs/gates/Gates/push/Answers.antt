use Rattle.std.proofs.Common.{◌≡◌, ◌∙◌, true, false, sym, ap, is_some, cond, Some, length}
use Rattle.std.specs.HashMap.{get}
use Rattle.gate_net.specs.contracts.row.GateRowPartialEq.TheImpl.{eq-value as row_equal}
use Rattle.gate_net.specs.Rows.{first_place}
use Rattle.gate_net.proofs.RowLemmas.{first_place-push_present, first_place-push_new}
use Rattle.gate_net.proofs.gates.Gates.push.Goals as goal

pub invariant_of-self-then-is_some : goal.invariant_of-self-then-is_some
invariant_of-self-then-is_some c = λ other.
    let found : is_some (first_place c.args.row c.self.inside.rows) ≡ true = cc in
    c.self.invariant other ∙ sym (first_place-push_present c.args.row other c.self.inside.rows found) ∙ ap (first_place other) (sym c.in_ok-push.ensures.ok)

pub invariant_of-self-2 : goal.invariant_of-self-2
invariant_of-self-2 c = λ other.
    let rows = c.self.inside.rows in
    let absent : is_some (first_place c.args.row rows) ≡ false = cc in
    let noted : get row_equal.it c.note_place.new.index other ≡ cond (row_equal.it c.in_ok-key.key other) (Some c.len-place.result) (get row_equal.it c.reserve.new.self other) =
    c.note_place.ensures other in
    let kept : get row_equal.it c.reserve.new.self other ≡ first_place other rows = c.in_ok-reserve.ensures.entries.2 other ∙ c.self.invariant other in
    let copied : c.in_ok-key.key ≡ c.args.row = c.in_ok-key.ensures in
    let place : c.len-place.result ≡ length rows = c.len-place.ensures in
    noted
    ∙ ap (λ key. cond (row_equal.it key other) (Some c.len-place.result) (get row_equal.it c.reserve.new.self other)) copied
    ∙ ap (λ n. cond (row_equal.it c.args.row other) (Some n) (get row_equal.it c.reserve.new.self other)) place
    ∙ ap (λ was. cond (row_equal.it c.args.row other) (Some (length rows)) was) kept
    ∙ sym (first_place-push_new c.args.row other rows absent)
    ∙ ap (first_place other) (sym c.in_ok-push-2.ensures.ok)
