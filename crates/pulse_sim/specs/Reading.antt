-- What is read at the outputs, as text.
use Rattle.std.specs.Prelude.{ℕ, Bool, List, [], ◌∷◌, ◌++◌, length, map, flat_map, if◌then◌else◌}
use Rattle.std.specs.List.{range_with_len}
use Rattle.pulse_net.specs.declared.net.PulseNet.{PulseNet}
use Rattle.pulse_net.specs.Pulses.{value_read}

-- the character of a bit
abbrev pub digit : Bool → ℕ
digit bit = if bit then 49 else 48

-- the line of a row: the values read for it at all outputs, in order, and a line feed
abbrev pub line_read : PulseNet → List (List Bool) → ℕ → List ℕ
line_read net rows row = map (λ output. digit (value_read net rows output row)) (range_with_len 0 (length net.outputs)) ++ 10 ∷ []

-- the lines of all rows, in order
abbrev pub lines_read : PulseNet → List (List Bool) → List ℕ
lines_read net rows = flat_map (line_read net rows) (range_with_len 0 (length rows))
