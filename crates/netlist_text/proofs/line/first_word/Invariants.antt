use Rattle.std.proofs.Common.{◌≡◌, drop}
use Rattle.netlist_text.specs.Scanning.{word_from}
use Rattle.netlist_text.proofs.line.first_word.Given as goal

-- no word so far stands at the front
abbrev pub invariant-loop-word : goal.invariant-loop-word
invariant-loop-word l = word_from (drop l.word-index l.words) l.bytes ≡ word_from l.words l.bytes
