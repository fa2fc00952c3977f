use Rattle.std.proofs.Common.{◌≡◌, drop, map, string_bytes}
use Rattle.rsfq_main.specs.Words.{given}
use Rattle.rsfq_main.proofs.keys.Key.given.Given as goal

-- no word so far gives the key a number
abbrev pub invariant-loop-word : goal.invariant-loop-word
invariant-loop-word l = given l.self (map string_bytes (drop l.word-index l.words)) ≡ given l.self (map string_bytes l.words)
