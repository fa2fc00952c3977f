pub mod CallerLemmas
mod Cutting
mod Examples
mod FrontOfLine
mod Joining
mod PartsOfText
mod Skipping
mod Spans
mod Tokens
mod TokensOfText
