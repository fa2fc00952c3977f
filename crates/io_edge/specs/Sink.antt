-- What a write does to the bytes that were taken.
use Rattle.std.specs.Prelude.{ℕ, ◌≡◌, ◌<◌, List, ◌++◌, length, Option, option_map, nat_lt, nat_eq, ◌&&◌, if◌then◌else◌}
use Rattle.io_edge.specs.Counts.{SinkCounts, raised, Rose}

-- the sink has taken these bytes too, where it tells what it took
abbrev pub Gains : Option (List ℕ) → Option (List ℕ) → List ℕ → Type 0
Gains before after bytes = after ≡ option_map (λ taken. taken ++ bytes) before

-- to take nothing of a piece that isn't empty is a stall, and is counted
abbrev pub CountsStall : SinkCounts → SinkCounts → List ℕ → ℕ → Type 0
CountsStall before after bytes k = k ≡ 0 → 0 < length bytes → Rose before.stalls after.stalls

-- the stalls after k of the offered bytes were taken
abbrev pub stalls_after : ℕ → ℕ → ℕ → ℕ
stalls_after stalls offered k = if nat_eq k 0 && nat_lt 0 offered then raised stalls else stalls
