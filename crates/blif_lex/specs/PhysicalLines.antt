-- Physical lines: what stands between two line feeds, and what is left of it to read.
use Rattle.std.specs.Prelude.{ℕ, ◌-◌, Bool, not, ◌&&◌, ◌||◌, ◌==◌, nat_le, List, length, take, slice_index, if◌then◌else◌}
use Rattle.std.specs.List.{before_first, suffix_len}
use Rattle.blif_lex.specs.Parts.{Part, cut_at}

abbrev pub is_line_feed : ℕ → Bool
is_line_feed byte = byte == 10

-- a space or a tab
abbrev pub is_blank : ℕ → Bool
is_blank byte = byte == 32 || byte == 9

-- the sign that begins a comment
abbrev pub is_hash : ℕ → Bool
is_hash byte = byte == 35

-- The text is cut at each line feed. A last line without one counts where it isn't empty.
abbrev pub cut_at_line_feeds : ℕ → List ℕ → List Part
cut_at_line_feeds start text = cut_at is_line_feed start text

-- whether the last byte of a line is this one, which isn't 0
abbrev pub ends_in : ℕ → List ℕ → Bool
ends_in byte line = slice_index line (length line - 1) == byte

abbrev pub without_last_byte : List ℕ → List ℕ
without_last_byte line = take (length line - 1) line

-- A carriage return as the last byte of a line is dropped.
unfoldable pub without_carriage_return : List ℕ → List ℕ
without_carriage_return line = if ends_in 13 line then without_last_byte line else line

-- Then a `#` and all that follows it in the line is dropped.
unfoldable pub without_comment : List ℕ → List ℕ
without_comment line = before_first is_hash line

-- the line up to its last byte that isn't a blank
unfoldable pub without_last_blanks : List ℕ → List ℕ
without_last_blanks line = take (length line - suffix_len is_blank line) line

-- what is left of a line, up to its last byte that isn't a blank
unfoldable pub kept : List ℕ → List ℕ
kept line = without_last_blanks (without_comment (without_carriage_return line))

-- Where that byte is a backslash, the next line is joined,
unfoldable pub is_joined : List ℕ → Bool
is_joined line = ends_in 92 (kept line)

-- and the backslash is dropped.
unfoldable pub content : List ℕ → List ℕ
content line = if is_joined line then without_last_byte (kept line) else kept line

-- neither a tab nor a byte from the space to the tilde
abbrev pub is_bad_byte : ℕ → Bool
is_bad_byte byte = not (byte == 9 || (nat_le 32 byte && nat_le byte 126))
