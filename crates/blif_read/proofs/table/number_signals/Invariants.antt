use Rattle.std.proofs.Common.{◌≡◌, ◌≤◌, ◌+◌, ◌++◌, length, drop}
use Rattle.std.specs.List.{list_any}
use Rattle.blif_read.specs.Signals.{is_long, signals_of, with_names}
use Rattle.blif_read.proofs.table.number_signals.Given as goal

-- what was numbered, then what the definition numbers of the other tokens, is what it numbers of all
abbrev pub invariant-loop-place : goal.invariant-loop-place
invariant-loop-place l = record {
  fault : list_any is_long (drop l.place l.line.tokens) ≡ list_any is_long (drop 1 l.line.tokens);
  names : with_names (drop l.place l.line.tokens) l.names ≡ with_names (drop 1 l.line.tokens) l.initial.names;
  signals : l.signals.items ++ signals_of (drop l.place l.line.tokens) l.names ≡ signals_of (drop 1 l.line.tokens) l.initial.names;
  few : length l.names ≤ length l.initial.names + l.place;
}
