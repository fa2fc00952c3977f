-- The lemma that other crates cite: each span of a line is in the text, and isn't empty.
use Rattle.std.proofs.Common.{◌<◌, ◌≤◌, ℕ, List, [], ◌∷◌, All}
use Rattle.std.proofs.lemmas.List.Elements.{All-nil, All-cons}
use Rattle.blif_lex.specs.declared.line.Span.{Span}
use Rattle.blif_lex.specs.LogicalLines.{AreWithin}

-- a span that is in a text and isn't empty
abbrev pub IsSpanOf : ℕ → Span → Type 0
IsSpanOf size span = (span.start < span.end) × (span.end ≤ size)

pub AreWithin-All : (start size : ℕ) (spans : List Span) → AreWithin start size spans → All (IsSpanOf size) spans
AreWithin-All start size [] are = All-nil (IsSpanOf size)
AreWithin-All start size (span ∷ spans) are = All-cons (IsSpanOf size) span spans (are.1, are.2) (AreWithin-All span.end size spans are.3)
