pub mod SpellingLines
pub mod FrontOfBytes
pub mod LineText
pub mod FieldsRead
pub mod FieldsWritten
pub mod ScannedLines
pub mod LinesRead
pub mod HeaderRead
pub mod SpelledLines
pub mod LinesOf
pub mod SpellingsDiffer
pub mod ParsedText
pub mod ParsedLaws
mod LineFeeds
mod Examples
