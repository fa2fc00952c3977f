-- What is left in a source that was read to its end, or to a limit.
use Rattle.std.specs.Prelude.{ℕ, ◌≡◌, ◌+◌, ◌<◌, ◌≤◌, List, [], ◌++◌, length, drop, Option, Some, option_map, Result, Ok, Err}
use Rattle.io_edge.specs.declared.reading.ReadAllFault.{ReadAllFault}
use Rattle.io_edge.specs.declared.reading.ReadAllFault.TheVariants.{ReadFault, TooLong, NoMemory}

-- what was read, then what is still to come: the whole text, where the source tells it
abbrev pub whole_text : List ℕ → Option (List ℕ) → Option (List ℕ)
whole_text read left = option_map (λ rest. read ++ rest) left

-- some bytes were taken from the front of the text, but not more than the limit
abbrev pub LeavesWithin : ℕ → List ℕ → Option (List ℕ) → Type 0
LeavesWithin limit text left = (k : ℕ) × (k ≤ limit) × (left ≡ Some (drop k text))

-- what each outcome leaves of the text: more than the limit is taken exactly of a text that is too long
abbrev pub LeavesOf : {T : Type 0} → ℕ → List ℕ → Result T ReadAllFault → Option (List ℕ) → Type 0
LeavesOf limit text (Ok _) left = left ≡ Some []
LeavesOf limit text (Err TooLong) left = (limit < length text) × (left ≡ Some (drop (limit + 1) text))
LeavesOf limit text (Err ReadFault) left = LeavesWithin limit text left
LeavesOf limit text (Err NoMemory) left = LeavesWithin limit text left
