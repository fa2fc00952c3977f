use Rattle.std.proofs.Common.{◌++◌, ◌+◌, ◌-◌, arith, sym, ap, ◌∙◌, append_assoc, append-nil}
use Rattle.gen_blif.proofs.Steps.{table_texts-first, table_texts-none}
use Rattle.gen_blif.proofs.random.push_tables.Goals as goal

pub loop-table-preserved : goal.loop-table-preserved
loop-table-preserved c =
    let left = c.args.tables - (c.loop-table.table + 1) in
    let step = table_texts-first (c.args.tables - c.loop-table.table) c.loop-table.table c.loop-table.words c.next_word.result c.next_word.new.self left (omega arith) c.next_word.ensures (omega arith) in
    record {
      text = rw (c.in_ok-push_table.ensures, append_assoc, ← step) c.loop-table.invariant.text;
      range = omega arith;
    }

pub returns : goal.returns
returns c =
    let end = table_texts-none (c.args.tables - c.loop-table.table) c.loop-table.table c.loop-table.words (omega arith) in
    sym (append-nil c.loop-table.out.items) ∙ ap (λ tables. c.loop-table.out.items ++ tables) (sym end) ∙ c.loop-table.invariant.text
