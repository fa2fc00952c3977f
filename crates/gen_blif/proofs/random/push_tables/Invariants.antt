use Rattle.std.proofs.Common.{◌≡◌, ◌≤◌, ◌++◌, ◌-◌}
use Rattle.gen_blif.specs.Random.{table_texts}
use Rattle.gen_blif.proofs.random.push_tables.Given as goal

-- the text so far and the tables that are left, by the words that the generator gives next, are the whole
abbrev pub invariant-loop-table : goal.invariant-loop-table
invariant-loop-table l = record {
  text : l.out.items ++ table_texts (l.tables - l.table) l.table l.words ≡ l.initial.out.items ++ table_texts l.tables 0 l.seed;
  range : l.table ≤ l.tables;
}

abbrev pub decreases-loop-table : goal.decreases-loop-table
decreases-loop-table l = l.tables - l.table
