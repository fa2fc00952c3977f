-- Small texts and their logical lines: the number of each line, whether it is bad, and the bytes of its tokens.
use Rattle.std.specs.Prelude.{◌≡◌, ℕ, Bool, true, false, List, [], ◌∷◌, ◌++◌, map, slice_range, codes, refl}
use Rattle.blif_lex.specs.declared.line.LogicalLine.{LogicalLine}
use Rattle.blif_lex.specs.declared.line.Span.{Span}
use Rattle.blif_lex.specs.PhysicalLines.{without_carriage_return, without_comment, without_last_blanks, kept, is_joined, content}
use Rattle.blif_lex.specs.LogicalLines.{tokens_at, line_of, all_from, lines_from, lines_of}

abbrev bytes_of : List ℕ → Span → List ℕ
bytes_of text span = slice_range text span.start span.end

abbrev shown : List ℕ → LogicalLine → ℕ × Bool × List (List ℕ)
shown text line = (line.line, line.bad, map (bytes_of text) line.tokens)

unfoldable read : List ℕ → List (ℕ × Bool × List (List ℕ))
unfolding without_carriage_return without_comment without_last_blanks kept is_joined content tokens_at line_of all_from lines_from
read text = map (shown text) (lines_of text)

-- an empty text has no line
an_empty_text : read [] ≡ []
unfolding read
an_empty_text = refl

-- a plain line
a_plain_line : read (codes ".names a b\n") ≡ (1, false, codes ".names" ∷ codes "a" ∷ codes "b" ∷ []) ∷ []
unfolding read
a_plain_line = refl

-- several blanks and tabs, at the front and at the end too
blanks_and_tabs : read (codes " \t.names\t\ta  b \t\n") ≡ (1, false, codes ".names" ∷ codes "a" ∷ codes "b" ∷ []) ∷ []
unfolding read
blanks_and_tabs = refl

-- lines without tokens are skipped and numbered
skipped_lines : read (codes "\n \t\n# c\n.end\n\n") ≡ (4, false, codes ".end" ∷ []) ∷ []
unfolding read
skipped_lines = refl

-- a comment, with no blank before it
a_comment : read (codes ".names a#b c\n.end\n") ≡ (1, false, codes ".names" ∷ codes "a" ∷ []) ∷ (2, false, codes ".end" ∷ []) ∷ []
unfolding read
a_comment = refl

-- a carriage return before the line feed
a_carriage_return : read (codes "a\r\nb\r\n") ≡ (1, false, codes "a" ∷ []) ∷ (2, false, codes "b" ∷ []) ∷ []
unfolding read
a_carriage_return = refl

-- a carriage return elsewhere is a bad byte
a_carriage_return_within : read (codes "a\rb\nc\r \n") ≡ (1, true, codes "a\rb" ∷ []) ∷ (2, true, codes "c\r" ∷ []) ∷ []
unfolding read
a_carriage_return_within = refl

-- a carriage return goes before the comment does
a_carriage_return_behind_a_comment : read (codes "a\r#b\n") ≡ (1, true, codes "a\r" ∷ []) ∷ []
unfolding read
a_carriage_return_behind_a_comment = refl

-- no last line feed
no_last_line_feed : read (codes "a\nb") ≡ (1, false, codes "a" ∷ []) ∷ (2, false, codes "b" ∷ []) ∷ []
unfolding read
no_last_line_feed = refl

-- a carriage return at the end of the text
a_last_carriage_return : read (codes "a\r") ≡ (1, false, codes "a" ∷ []) ∷ []
unfolding read
a_last_carriage_return = refl

-- a lone backslash joins the next line, and gives its own number
a_lone_backslash : read (codes "\\\n.end\n.end\n") ≡ (1, false, codes ".end" ∷ []) ∷ (3, false, codes ".end" ∷ []) ∷ []
unfolding read
a_lone_backslash = refl

-- a join separates tokens
a_join : read (codes ".inputs a\\\nb\\\nc\n.end") ≡ (1, false, codes ".inputs" ∷ codes "a" ∷ codes "b" ∷ codes "c" ∷ []) ∷ (4, false, codes ".end" ∷ []) ∷ []
unfolding read
a_join = refl

-- one backslash is dropped, and what stays isn't looked at again
two_backslashes : read (codes ".inputs a \\\\\n\n.end\n") ≡ (1, false, codes ".inputs" ∷ codes "a" ∷ codes "\\" ∷ []) ∷ (3, false, codes ".end" ∷ []) ∷ []
unfolding read
two_backslashes = refl

-- blanks behind the backslash
a_backslash_before_blanks : read (codes "a \\ \t\nb\n") ≡ (1, false, codes "a" ∷ codes "b" ∷ []) ∷ []
unfolding read
a_backslash_before_blanks = refl

-- a comment behind the backslash
a_backslash_before_a_comment : read (codes "a \\# c\nb\n") ≡ (1, false, codes "a" ∷ codes "b" ∷ []) ∷ []
unfolding read
a_backslash_before_a_comment = refl

-- a backslash in a comment joins nothing
a_backslash_in_a_comment : read (codes "a # c \\\nb\n") ≡ (1, false, codes "a" ∷ []) ∷ (2, false, codes "b" ∷ []) ∷ []
unfolding read
a_backslash_in_a_comment = refl

-- a backslash before a carriage return
a_backslash_before_a_carriage_return : read (codes "a \\\r\nb\r\n") ≡ (1, false, codes "a" ∷ codes "b" ∷ []) ∷ []
unfolding read
a_backslash_before_a_carriage_return = refl

-- a backslash within a line stays
a_backslash_within : read (codes "a\\b \\ c\n") ≡ (1, false, codes "a\\b" ∷ codes "\\" ∷ codes "c" ∷ []) ∷ []
unfolding read
a_backslash_within = refl

-- at the end of the text nothing is joined
a_backslash_at_the_end : read (codes "a \\") ≡ (1, false, codes "a" ∷ []) ∷ []
unfolding read
a_backslash_at_the_end = refl

-- the same behind a line feed
a_backslash_in_the_last_line : read (codes "a \\\n") ≡ (1, false, codes "a" ∷ []) ∷ []
unfolding read
a_backslash_in_the_last_line = refl

-- a lone backslash at the end is skipped
a_lone_backslash_at_the_end : read (codes "\\\n") ≡ []
unfolding read
a_lone_backslash_at_the_end = refl

-- a comment ends a joined line
a_comment_behind_a_join : read (codes "a \\\n# c\nb\n") ≡ (1, false, codes "a" ∷ []) ∷ (3, false, codes "b" ∷ []) ∷ []
unfolding read
a_comment_behind_a_join = refl

-- bytes past ASCII in a comment
a_bad_byte_in_a_comment : read (codes "a # " ++ 195 ∷ 0 ∷ codes "\nb\n") ≡ (1, false, codes "a" ∷ []) ∷ (2, false, codes "b" ∷ []) ∷ []
unfolding read
a_bad_byte_in_a_comment = refl

-- and outside
a_bad_byte : read (codes "a " ++ 195 ∷ codes " b\nb\n") ≡ (1, true, codes "a" ∷ (195 ∷ []) ∷ codes "b" ∷ []) ∷ (2, false, codes "b" ∷ []) ∷ []
unfolding read
a_bad_byte = refl

-- a bad byte in a joined line
a_bad_byte_behind_a_join : read (codes "a \\\n" ++ 127 ∷ codes "\nb\n") ≡ (1, true, codes "a" ∷ (127 ∷ []) ∷ []) ∷ (3, false, codes "b" ∷ []) ∷ []
unfolding read
a_bad_byte_behind_a_join = refl

-- A byte that isn't a blank is in a token, so a bad line has one.
a_zero_byte : read (0 ∷ codes "\n") ≡ (1, true, (0 ∷ []) ∷ []) ∷ []
unfolding read
a_zero_byte = refl

-- the spans themselves
spans_of_two_lines : lines_of (codes "ab c\n\n d") ≡ record { line = 1; bad = false; tokens = record { start = 0; end = 2 } ∷ record { start = 3; end = 4 } ∷ [] }
    ∷ record { line = 3; bad = false; tokens = record { start = 7; end = 8 } ∷ [] } ∷ []
unfolding read
spans_of_two_lines = refl
