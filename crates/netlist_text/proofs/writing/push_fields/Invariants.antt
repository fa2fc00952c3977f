use Rattle.std.proofs.Common.{◌≡◌, ◌++◌, drop}
use Rattle.netlist_text.specs.Spelling.{fields}
use Rattle.netlist_text.proofs.writing.push_fields.Given as goal

-- the text so far and the fields that are left are the whole
abbrev pub invariant-loop-number : goal.invariant-loop-number
invariant-loop-number l = l.out.items ++ fields (drop l.number-index l.numbers) ≡ l.initial.out.items ++ fields l.numbers
