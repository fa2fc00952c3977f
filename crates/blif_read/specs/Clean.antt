-- Lines that aren't bad: their tokens may be names, but for their length.
use Rattle.std.specs.Prelude.{◌≡◌, ◌<◌, ◌≤◌, ℕ, false, List, length, slice_range, All}
use Rattle.net_base.specs.Name.{IsNameByte}
use Rattle.blif_lex.specs.declared.line.LogicalLine.{LogicalLine}
use Rattle.blif_lex.specs.declared.line.Span.{Span}

-- a span of a text that isn't empty and has the bytes of names alone
pub record IsTokenOf (text : List ℕ) (span : Span) : Type 0 where
  pub some : span.start < span.end
  pub within : span.end ≤ length text
  pub visible : All IsNameByte (slice_range text span.start span.end)

-- a line that isn't bad, all of whose tokens are such
pub record IsClean (text : List ℕ) (line : LogicalLine) : Type 0 where
  pub good : line.bad ≡ false
  pub tokens : All (IsTokenOf text) line.tokens

-- a line of which this is so where it isn't bad
abbrev pub IsCleanUnlessBad : List ℕ → LogicalLine → Type 0
IsCleanUnlessBad text line = line.bad ≡ false → All (IsTokenOf text) line.tokens
