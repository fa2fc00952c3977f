use Rattle.std.proofs.Common.{◌≡◌, ◌≤◌, ◌+◌, ◌++◌, length, drop}
use Rattle.blif_read.specs.Signals.{signals_of, with_names}
use Rattle.blif_read.specs.Faults.{listing_fault, most_of}
use Rattle.blif_read.proofs.port.list_signals.Given as goal

-- what was listed, then what the definition lists of the other tokens, is what it lists of all
abbrev pub invariant-loop-place : goal.invariant-loop-place
invariant-loop-place l = record {
  fault : listing_fault l.port l.names l.listed.keys (drop l.place l.line.tokens) ≡ listing_fault l.port l.initial.names l.initial.listed.keys (drop 1 l.line.tokens);
  names : with_names (drop l.place l.line.tokens) l.names ≡ with_names (drop 1 l.line.tokens) l.initial.names;
  listed : l.listed.keys ++ signals_of (drop l.place l.line.tokens) l.names ≡ l.initial.listed.keys ++ signals_of (drop 1 l.line.tokens) l.initial.names;
  few_names : length l.names + length l.initial.listed.keys ≤ length l.initial.names + length l.listed.keys;
  few : length l.listed.keys ≤ most_of l.port;
}
