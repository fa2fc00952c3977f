-- The lemmas that other crates cite: lines of tokens, one after another, are read as those lines.
pub use Rattle.blif_read.proofs.SpelledLines.{is_token_byte, IsOpenToken, IsLineOfTokens, good_line, numbered, lines_in-text}
