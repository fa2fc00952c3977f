pub mod Gaps
pub mod CallerLemmas
